-- The breaks of a statement, all of them in their order, and the statement with its names looked up and its kinds settled.
use Rattle.std.specs.Prelude.{ℕ, Bool, true, false, cond, not, ◌||◌, List, [], ◌∷◌, ◌++◌, map, flat_map, length, is_none, is_some, nat_eq, nat_lt, find, Option, Some, None, option_map}
use Rattle.std.specs.Cmp.Lexicographic.{slice_cmp}
use Rattle.std.specs.List.{list_any}
use Rattle.std.specs.Option.{option_map_or}
use Rattle.std.specs.Ordering.{nat_cmp}
use Rattle.std.specs.declared.cmp.Ordering.TheVariants.{Less, Equal, Greater}
use Rattle.perm_values.specs.declared.kind.Kind.{Kind}
use Rattle.perm_values.specs.declared.kind.Kind.TheVariants as kind
use Rattle.bag_algebra.specs.Measures.{height_of, size_of}
use Rattle.bag_algebra.specs.declared.expr.Expr.{Expr}
use Rattle.bag_algebra.specs.declared.query.Answer.{Answer}
use Rattle.bag_algebra.specs.declared.query.Query.{Query}
use Rattle.query_facts.specs.monotone.Monotone.{is_monotone}
use Rattle.perm_catalog.specs.Changes.{table_named, view_named, is_free}
use Rattle.perm_catalog.specs.Columns.{column_kinds}
use Rattle.perm_catalog.specs.Contents.{Contents}
use Rattle.perm_catalog.specs.Lookups.{first_user}
use Rattle.perm_catalog.specs.declared.column.Column.{Column}
use Rattle.perm_catalog.specs.declared.entries.TableEntry.{TableEntry}
use Rattle.perm_catalog.specs.declared.entries.ViewEntry.{ViewEntry}
use Rattle.sql_tree.specs.declared.expression.ExprTree.{ExprTree}
use Rattle.sql_tree.specs.declared.name.Name.{Name}
use Rattle.sql_tree.specs.declared.query.QueryTree.{QueryTree}
use Rattle.sql_tree.specs.declared.statement.ColumnDef.{ColumnDef}
use Rattle.sql_tree.specs.declared.statement.Statement.{Statement}
use Rattle.sql_tree.specs.declared.statement.StatementBody.{StatementBody}
use Rattle.sql_tree.specs.declared.statement.StatementBody.TheVariants as st
use Rattle.sql_tree.specs.declared.statement.ValuesRow.{ValuesRow}
use Rattle.name_meaning.specs.Froms.{condition_breaks, names_of, named_so, settled_columns, table_columns}
use Rattle.name_meaning.specs.Meanings.{Surroundings, Meant, means_at, Around, QueryMeant, query_means_at, broken, broken_if, is_whole, seen_kind, unites}
use Rattle.name_meaning.specs.Queries.{may_not_ask}
use Rattle.name_meaning.specs.Scopes.{KnownColumn, scope_of}
use Rattle.name_meaning.specs.Sublinks.{nothing_before}
use Rattle.name_meaning.specs.Trees.{part_of, query_of}
use Rattle.name_meaning.specs.declared.answer.Break.{Break}
use Rattle.name_meaning.specs.declared.scope.Scope.{Scope}
use Rattle.name_meaning.specs.declared.answer.Resolved.{Resolved}
use Rattle.name_meaning.specs.declared.answer.Resolved.TheVariants as r
use Rattle.name_meaning.specs.declared.rule.Rule.TheVariants as rule

-- ---- the queries of a statement

-- a whole query sees no scope, and the word PROVENANCE may stand in it
abbrev pub alone : Around
alone = record { outer = []; may_ask = true }

abbrev pub query_meant : Contents → QueryTree → QueryMeant
query_meant c tree = query_means_at (query_of c tree) alone

-- that of IMPACT sees no scope either, and the word PROVENANCE may not stand at its front
abbrev pub impact_query : Contents → QueryTree → QueryMeant
impact_query c tree = query_means_at (query_of c tree) (may_not_ask alone)

abbrev pub columns_of : QueryMeant → List KnownColumn
columns_of m = option_map_or settled_columns m.columns []

abbrev pub answer_of : QueryMeant → Answer
answer_of m = record { query = m.make []; names = names_of (columns_of m); keys = m.keys }

abbrev pub repeats : List (List ℕ) → Bool
repeats [] = false
repeats (name ∷ names) = list_any (named_so name) names || repeats names

abbrev pub has_boolean : List KnownColumn → Bool
has_boolean [] = false
has_boolean (column ∷ columns) = elim column.kind [ kind.Integer ↦ has_boolean columns | kind.Text ↦ has_boolean columns | kind.Boolean ↦ true ]

abbrev pub stored_columns : List KnownColumn → List Column
stored_columns columns = map (λ (column : KnownColumn). record { name = column.name; kind = column.kind }) columns

-- ---- expressions outside a query

-- neither an aggregate nor a sublink stands here
abbrev pub bare : List Scope → Surroundings
bare scopes = record { scopes = scopes; aggregates = false; sublinks = false; argument = false }

-- the condition of DELETE and of IMPACT sees one item, named as the table, with all its columns
abbrev pub table_scope : Name → TableEntry → Scope
table_scope name table = scope_of (record { name = name.text; columns = table_columns table.columns } ∷ [])

-- the value's own breaks, then its kind
abbrev pub value_breaks : Kind → ℕ → Meant → List Break
value_breaks kind at m = m.breaks ++ broken_if (not (unites (Some kind) (seen_kind m))) rule.UnfitKind at

abbrev pub values_breaks : Contents → List Kind → List ExprTree → List Break
values_breaks c [] values = []
values_breaks c (kind ∷ kinds) [] = []
values_breaks c (kind ∷ kinds) (tree ∷ trees) =
    value_breaks kind (part_of c tree).at (means_at (part_of c tree) (bare [])) ++ values_breaks c kinds trees

abbrev pub row_breaks : Contents → List Kind → ValuesRow → List Break
row_breaks c kinds row = cond (nat_eq (length row.values) (length kinds)) (values_breaks c kinds row.values) (broken rule.UnfitWidth row.at ∷ [])

abbrev pub made_alone : Kind → Meant → Expr
made_alone kind m = (m.make kind nothing_before).expr

abbrev pub row_made : Contents → List Kind → List ExprTree → List Expr
row_made c [] values = []
row_made c (kind ∷ kinds) [] = []
row_made c (kind ∷ kinds) (tree ∷ trees) = made_alone kind (means_at (part_of c tree) (bare [])) ∷ row_made c kinds trees

-- ---- the rules of names and kinds

abbrev pub taken : Contents → Name → List Break
taken c name = broken_if (not (is_free c name.text)) rule.TakenName name.at

-- each later column of an earlier name
abbrev pub repeated_columns : List (List ℕ) → List ColumnDef → List Break
repeated_columns earlier [] = []
repeated_columns earlier (column ∷ columns) =
    broken_if (list_any (named_so column.name.text) earlier) rule.RepeatedColumn column.name.at ++ repeated_columns (column.name.text ∷ earlier) columns

abbrev pub unknown_table : Contents → Name → List Break
unknown_table c name = broken_if (is_none (table_named c name.text)) rule.UnknownRelation name.at

abbrev pub unknown_view : Contents → Name → List Break
unknown_view c name = broken_if (is_none (view_named c name.text)) rule.UnknownRelation name.at

abbrev pub used : Contents → Name → List Break
used c name = broken_if (is_some (first_user c name.text)) rule.UsedByView name.at

-- what stands on a table that isn't there isn't looked at
abbrev pub on_table : Contents → Name → (TableEntry → List Break) → List Break
on_table c name looked = option_map_or looked (table_named c name.text) (broken rule.UnknownRelation name.at ∷ [])

abbrev pub delete_breaks : Contents → Name → Option ExprTree → TableEntry → List Break
delete_breaks c name condition table = option_map_or
    (λ tree. condition_breaks (part_of c tree).at (means_at (part_of c tree) (bare (table_scope name table ∷ [])))) condition []

abbrev pub named_query_breaks : ℕ → QueryMeant → List Break
named_query_breaks at m = m.breaks ++ broken_if (repeats (names_of (columns_of m))) rule.RepeatedColumn at

-- the condition of IMPACT as that of DELETE, then its query
abbrev pub impact_parts : Contents → Name → Option ExprTree → QueryTree → List Break
impact_parts c table condition query = on_table c table (delete_breaks c table condition) ++ (impact_query c query).breaks

abbrev pub not_monotone : ℕ → QueryMeant → List Break
not_monotone at m = broken_if (not (is_monotone (m.make []))) rule.NotMonotone at

-- whether the query is monotone is looked at where all else breaks no rule
abbrev pub impact_breaks : List Break → ℕ → QueryMeant → List Break
impact_breaks parts at m = cond (is_whole parts) (not_monotone at m) parts

abbrev pub name_breaks : Contents → StatementBody → List Break
name_breaks c (st.CreateTable table columns) = taken c table ++ repeated_columns [] columns
name_breaks c (st.CreateTableAs table query) = taken c table ++ named_query_breaks query.at (query_meant c query)
    ++ broken_if (has_boolean (columns_of (query_meant c query))) rule.UnfitKind query.at
name_breaks c (st.CreateView view query) = taken c view ++ named_query_breaks query.at (query_meant c query)
name_breaks c (st.Copy table file header mark) = unknown_table c table
name_breaks c (st.Insert table rows) =
    on_table c table (λ (entry : TableEntry). flat_map (row_breaks c (column_kinds entry.columns)) rows)
name_breaks c (st.Delete table condition) = on_table c table (delete_breaks c table condition)
name_breaks c (st.DropTable table) = unknown_table c table ++ used c table
name_breaks c (st.DropView view) = unknown_view c view ++ used c view
name_breaks c (st.Select query) = (query_meant c query).breaks
name_breaks c (st.Explain query) = (query_meant c query).breaks
name_breaks c (st.ShowFresh table) = unknown_table c table
name_breaks c (st.Impact table condition query) =
    impact_breaks (impact_parts c table condition query) query.at (impact_query c query)

-- ---- limits

abbrev pub most_table_columns : ℕ
most_table_columns = 256

abbrev pub most_query_columns : ℕ
most_query_columns = 1024

abbrev pub greatest_height : ℕ
greatest_height = 256

abbrev pub most_operators : ℕ
most_operators = 65536

abbrev pub table_limit : Name → ℕ → List Break
table_limit name width = broken_if (nat_lt most_table_columns width) rule.TooManyColumns name.at

-- the first query in the order of the text that has too many columns
abbrev pub width_limit : List (ℕ × ℕ) → List Break
width_limit queries = option_map_or (λ (query : ℕ × ℕ). broken rule.TooManyColumns query.0 ∷ []) (find (λ (query : ℕ × ℕ). nat_lt most_query_columns query.1) queries) []

abbrev pub size_limit : ℕ → Query → List Break
size_limit at query = broken_if (nat_lt greatest_height (height_of query) || nat_lt most_operators (size_of query)) rule.TooLarge at

abbrev pub query_limits : ℕ → QueryMeant → List Break
query_limits at m = width_limit m.inside.queries ++ size_limit at (m.make [])

abbrev pub limit_breaks : Contents → StatementBody → List Break
limit_breaks c (st.CreateTable table columns) = table_limit table (length columns)
limit_breaks c (st.CreateTableAs table query) =
    table_limit table (length (columns_of (query_meant c query))) ++ query_limits query.at (query_meant c query)
limit_breaks c (st.CreateView view query) = query_limits query.at (query_meant c query)
limit_breaks c (st.Copy table file header mark) = []
limit_breaks c (st.Insert table rows) = []
limit_breaks c (st.Delete table condition) = []
limit_breaks c (st.DropTable table) = []
limit_breaks c (st.DropView view) = []
limit_breaks c (st.Select query) = query_limits query.at (query_meant c query)
limit_breaks c (st.Explain query) = query_limits query.at (query_meant c query)
limit_breaks c (st.ShowFresh table) = []
limit_breaks c (st.Impact table condition query) = query_limits query.at (impact_query c query)

-- the limits are looked at where names and kinds break no rule
abbrev pub breaks : Contents → Statement → List Break
breaks c statement = cond (is_whole (name_breaks c statement.body)) (limit_breaks c statement.body) (name_breaks c statement.body)

-- ---- resolved statements

-- in ascending order of bytes, each once
abbrev pub noted : List ℕ → List (List ℕ) → List (List ℕ)
noted name [] = name ∷ []
noted name (other ∷ others) = elim (slice_cmp nat_cmp name other) [
  | Less ↦ name ∷ other ∷ others
  | Equal ↦ other ∷ others
  | Greater ↦ other ∷ noted name others
]

abbrev pub all_noted : List (List ℕ) → List (List ℕ)
all_noted [] = []
all_noted (name ∷ names) = noted name (all_noted names)

abbrev pub defined_columns : List ColumnDef → List Column
defined_columns columns = map (λ (column : ColumnDef). record { name = column.name.text; kind = column.kind }) columns

abbrev pub kinds_of_table : Contents → Name → List Kind
kinds_of_table c name = option_map_or (λ (entry : TableEntry). column_kinds entry.columns) (table_named c name.text) []

abbrev pub rows_made : Contents → List Kind → List ValuesRow → List (List Expr)
rows_made c kinds rows = map (λ (row : ValuesRow). row_made c kinds row.values) rows

abbrev pub condition_made : Contents → Name → ExprTree → TableEntry → Expr
condition_made c name tree table = made_alone kind.Boolean (means_at (part_of c tree) (bare (table_scope name table ∷ [])))

abbrev pub delete_made : Contents → Name → Option ExprTree → Option Expr
delete_made c name None = None
delete_made c name (Some tree) = option_map (condition_made c name tree) (table_named c name.text)

abbrev pub view_entry : QueryMeant → ViewEntry
view_entry m = record { answer = answer_of m; places = m.places; names_used = all_noted m.inside.names }

abbrev pub resolved_body : Contents → StatementBody → Resolved
resolved_body c (st.CreateTable table columns) = r.CreateTable table.text (defined_columns columns)
resolved_body c (st.CreateTableAs table query) = r.CreateTableAs table.text (stored_columns (columns_of (query_meant c query)))
    (answer_of (query_meant c query)) (query_meant c query).places
resolved_body c (st.CreateView view query) = r.CreateView view.text (view_entry (query_meant c query))
resolved_body c (st.Copy table file header mark) = r.Copy table.text (kinds_of_table c table) file mark header
resolved_body c (st.Insert table rows) = r.Insert table.text (rows_made c (kinds_of_table c table) rows)
resolved_body c (st.Delete table condition) = r.Delete table.text (delete_made c table condition)
resolved_body c (st.DropTable table) = r.DropTable table.text
resolved_body c (st.DropView view) = r.DropView view.text
resolved_body c (st.Select query) = r.Select (answer_of (query_meant c query))
resolved_body c (st.Explain query) = r.Explain (answer_of (query_meant c query))
resolved_body c (st.ShowFresh table) = r.ShowFresh table.text
resolved_body c (st.Impact table condition query) = r.Impact table.text (delete_made c table condition) (answer_of (impact_query c query))

abbrev pub resolved : Contents → Statement → Resolved
resolved c statement = resolved_body c statement.body
