-- What a statement adds that breaks no rule: columns of a table, and values of the kinds of their columns.
use Rattle.std.proofs.Common.{◌≡◌, ◌≢◌, ◌∙◌, ℕ, Bool, true, false, cond, not, nat_eq, List, [], ◌∷◌, length, Option, Some, None, IfSome, refl, sym, subst, arith}
use Rattle.std.proofs.lemmas.Bool.{not-false, eqb-true}
use Rattle.std.proofs.lemmas.List.Elements.{All-head, All-tail, All-map, All-weaker, All-contains_itself}
use Rattle.std.specs.Cmp.Lexicographic.{pointwise, nat_list_eq_equiv}
use Rattle.std.specs.List.{All, AllByRecursion, Contains, IsDistinct, flat_map, list_any}
use Rattle.std.specs.Option.{option_map_or}
use Rattle.perm_values.specs.declared.kind.Kind.{Kind}
use Rattle.perm_values.specs.declared.kind.Kind.TheVariants as kind
use Rattle.perm_values.proofs.Lists.{front-none, back-none}
use Rattle.bag_algebra.specs.built.Forms.{subs_kinds}
use Rattle.bag_algebra.specs.WellFormed.{HasKind}
use Rattle.bag_algebra.specs.declared.query.Aggr.{Aggr}
use Rattle.bag_algebra.specs.declared.query.Sublink.{Sublink}
use Rattle.perm_catalog.specs.Changes.{table_named}
use Rattle.perm_catalog.specs.Columns.{AreTableColumns, column_kinds, column_names}
use Rattle.perm_catalog.specs.Contents.{Contents}
use Rattle.perm_catalog.specs.Sound.{IsSound, IsSoundView}
use Rattle.perm_catalog.specs.declared.column.Column.{Column}
use Rattle.perm_catalog.specs.declared.entries.TableEntry.{TableEntry}
use Rattle.sql_tree.specs.Regular.{Each, IsFilled, RegularColumn, RegularExpr, RegularQuery, RegularRow, RegularStatement, RegularStatementBody}
use Rattle.sql_tree.specs.declared.expression.ExprTree.{ExprTree}
use Rattle.sql_tree.specs.declared.name.Name.{Name}
use Rattle.sql_tree.specs.declared.query.QueryTree.{QueryTree}
use Rattle.sql_tree.specs.declared.statement.ColumnDef.{ColumnDef}
use Rattle.sql_tree.specs.declared.statement.Statement.{Statement}
use Rattle.sql_tree.specs.declared.statement.StatementBody.{StatementBody}
use Rattle.sql_tree.specs.declared.statement.StatementBody.TheVariants as st
use Rattle.sql_tree.specs.declared.statement.ValuesRow.{ValuesRow}
use Rattle.bag_algebra.proofs.Truths.{left-false, right-false}
use Rattle.name_meaning.specs.Froms.{named_so, names_of}
use Rattle.name_meaning.specs.Meanings.{Meant, QueryMeant, means_at, broken, broken_if, is_same_kind, seen_kind, settled, unites}
use Rattle.name_meaning.specs.Statements.{alone, bare, breaks, columns_of, defined_columns, kinds_of_table, made_alone, name_breaks, named_query_breaks, on_table, query_meant, repeated_columns, repeats, resolved, resolved_body, row_breaks, row_made, rows_made, taken, value_breaks, values_breaks, view_entry}
use Rattle.name_meaning.specs.Sublinks.{nothing_before}
use Rattle.name_meaning.specs.Trees.{part_of}
use Rattle.name_meaning.specs.declared.answer.Break.{Break}
use Rattle.name_meaning.specs.laws.Formed.{IsAnswer, IsFormedExpr}
use Rattle.name_meaning.specs.laws.Standing.{StandAt, AggregatesStand}
use Rattle.name_meaning.proofs.Every.{whole-kind, unbroken-not}
use Rattle.name_meaning.proofs.TreeLaws.{expr-formed, query-answer}
use Rattle.name_meaning.proofs.Named.{view-reads}
use Rattle.name_meaning.proofs.Needs.{settled-of_kind}
use Rattle.statement_meaning.proofs.Ready.{names-whole, sound-answer}
use Rattle.statement_meaning.proofs.Stored.{answer-adds}
use Rattle.statement_meaning.specs.laws.Sounder.{AddsSoundly, HaveKinds, RowsHaveKinds}
use Rattle.name_meaning.specs.declared.rule.Rule.TheVariants as rule

all-of : {X : Type 0} (P : X → Type 0) (xs : List X) → Each P xs → All P xs
all-of P xs each = All-weaker (Contains xs) P (λ x among. each x among) xs (All-contains_itself xs)

-- ---- columns

-- no name behind another is it, nor one of the earlier ones
module _ (name : List ℕ) (earlier : List (List ℕ)) where
  earlier-apart : (names : List (List ℕ)) → AllByRecursion (λ y. list_any (named_so y) (name ∷ earlier) ≡ false) names
      → AllByRecursion (λ y. list_any (named_so y) earlier ≡ false) names
  earlier-apart [] h = tt
  earlier-apart (y ∷ names) h = (right-false (named_so y name) (list_any (named_so y) earlier) h.0, earlier-apart names h.1)

  name-apart : (names : List (List ℕ)) → AllByRecursion (λ y. list_any (named_so y) (name ∷ earlier) ≡ false) names
      → AllByRecursion (λ y. pointwise nat_eq name y ≡ false) names
  name-apart [] h = tt
  name-apart (y ∷ names) h =
      (nat_list_eq_equiv.symm name y ∙ left-false (named_so y name) (list_any (named_so y) earlier) h.0, name-apart names h.1)

names-differ : (earlier : List (List ℕ)) (columns : List ColumnDef) → repeated_columns earlier columns ≡ []
    → AllByRecursion (λ y. list_any (named_so y) earlier ≡ false) (column_names (defined_columns columns))
    × IsDistinct (pointwise nat_eq) (column_names (defined_columns columns))
unfolding IsDistinct
names-differ earlier [] e = (tt, tt)
names-differ earlier (column ∷ columns) e =
    let name : List ℕ = column.name.text in
    let first : List Break = broken_if (list_any (named_so name) earlier) rule.RepeatedColumn column.name.at in
    let more : List Break = repeated_columns (name ∷ earlier) columns in
    let names : List (List ℕ) = column_names (defined_columns columns) in
    let here = unbroken-not (list_any (named_so name) earlier) rule.RepeatedColumn column.name.at (front-none first more e) in
    let rest = names-differ (name ∷ earlier) columns (back-none first more e) in
    ((here, earlier-apart name earlier names rest.0), (name-apart name earlier names rest.0, rest.1))

some-columns : (columns : List ColumnDef) → IsFilled columns → defined_columns columns ≢ []
some-columns [] filled = absurd filled
some-columns (column ∷ columns) filled = λ e. cc e

table-columns : (columns : List ColumnDef) → IsFilled columns → Each RegularColumn columns → repeated_columns [] columns ≡ [] → AreTableColumns (defined_columns columns)
table-columns columns filled regular e = record {
  some = some-columns columns filled;
  named = (names-differ [] columns e).1;
  stored = All-map (λ (column : Column). column.kind ≢ kind.Boolean) (λ (column : ColumnDef). record { name = column.name.text; kind = column.kind }) columns
      (all-of RegularColumn columns regular);
}

-- ---- values

same-kind : (k other : Kind) → is_same_kind k other ≡ true → other ≡ k
same-kind kind.Integer kind.Integer e = refl
same-kind kind.Integer kind.Text e = absurd (cc e)
same-kind kind.Integer kind.Boolean e = absurd (cc e)
same-kind kind.Text kind.Integer e = absurd (cc e)
same-kind kind.Text kind.Text e = refl
same-kind kind.Text kind.Boolean e = absurd (cc e)
same-kind kind.Boolean kind.Integer e = absurd (cc e)
same-kind kind.Boolean kind.Text e = absurd (cc e)
same-kind kind.Boolean kind.Boolean e = refl

module _ (c : Contents) (sound : IsSound c) where
  made-kind : (k : Kind) (tree : ExprTree) → RegularExpr tree
      → value_breaks k (part_of c tree).at (means_at (part_of c tree) (bare [])) ≡ []
      → HasKind ([] ∷ []) [] (made_alone k (means_at (part_of c tree) (bare []))) k
  made-kind k tree regular e =
      let m : Meant = means_at (part_of c tree) (bare []) in
      let differs : Bool = not (unites (Some k) (seen_kind m)) in
      let whole = front-none m.breaks (broken_if differs rule.UnfitKind (part_of c tree).at) e in
      let united = not-false (unites (Some k) (seen_kind m)) (unbroken-not differs rule.UnfitKind (part_of c tree).at (back-none m.breaks (broken_if differs rule.UnfitKind (part_of c tree).at) e)) in
      let f : IsFormedExpr (bare []) nothing_before (m.make k nothing_before) (settled m.kind k) = expr-formed c tree (bare []) sound regular whole k nothing_before in
      subst (λ (found : Kind). HasKind ([] ∷ []) [] (made_alone k m) found)
      (settled-of_kind k m.kind (subst (λ (o : Option Kind). unites (Some k) o ≡ true) (whole-kind m whole) united))
      (f.holds ([] ∷ []) [] tt
      (subst (λ (aggregates : List Aggr). AggregatesStand (bare []).scopes nothing_before.aggregates aggregates ([] ∷ [])) (sym (f.without_aggregates refl)) tt)
      (subst (λ (subs : List Sublink). StandAt nothing_before.subs (subs_kinds subs) []) (sym (f.without_subs refl)) tt))

  values-have : (kinds : List Kind) (trees : List ExprTree) → length trees ≡ length kinds → All RegularExpr trees
      → values_breaks c kinds trees ≡ [] → HaveKinds (row_made c kinds trees) kinds
  values-have [] trees long regular e = tt
  values-have (k ∷ kinds) [] long regular e = absurd (omega arith)
  values-have (k ∷ kinds) (tree ∷ trees) long regular e =
      let first : List Break = value_breaks k (part_of c tree).at (means_at (part_of c tree) (bare [])) in (
        made-kind k tree (All-head RegularExpr tree trees regular) (front-none first (values_breaks c kinds trees) e),
        values-have kinds trees (omega arith) (All-tail RegularExpr tree trees regular) (back-none first (values_breaks c kinds trees) e),
      )

  row-has : (kinds : List Kind) (row : ValuesRow) → RegularRow row → row_breaks c kinds row ≡ []
      → HaveKinds (row_made c kinds row.values) kinds
  row-has kinds row regular = chosen (nat_eq (length row.values) (length kinds)) refl where
    chosen : (b : Bool) → nat_eq (length row.values) (length kinds) ≡ b → cond b (values_breaks c kinds row.values) (broken rule.UnfitWidth row.at ∷ []) ≡ []
        → HaveKinds (row_made c kinds row.values) kinds
    chosen true same e = values-have kinds row.values (eqb-true (length row.values) (length kinds) same) (all-of RegularExpr row.values regular.1) e
    chosen false same e = absurd (cc e)

  rows-have : (kinds : List Kind) (rows : List ValuesRow) → All RegularRow rows
      → flat_map (row_breaks c kinds) rows ≡ [] → RowsHaveKinds (rows_made c kinds rows) kinds
  rows-have kinds [] regular e = tt
  rows-have kinds (row ∷ rows) regular e = (
    row-has kinds row (All-head RegularRow row rows regular) (front-none (row_breaks c kinds row) (flat_map (row_breaks c kinds) rows) e),
    rows-have kinds rows (All-tail RegularRow row rows regular) (back-none (row_breaks c kinds row) (flat_map (row_breaks c kinds) rows) e),
  )

  insert-adds : (table : Name) (rows : List ValuesRow) → All RegularRow rows
      → on_table c table (λ (entry : TableEntry). flat_map (row_breaks c (column_kinds entry.columns)) rows) ≡ []
      → IfSome (table_named c table.text) (λ (entry : TableEntry). RowsHaveKinds (rows_made c (kinds_of_table c table) rows) (column_kinds entry.columns))
  insert-adds table rows regular = chosen (table_named c table.text) where
    chosen : (o : Option TableEntry) → option_map_or (λ (entry : TableEntry). flat_map (row_breaks c (column_kinds entry.columns)) rows) o (broken rule.UnknownRelation table.at ∷ []) ≡ []
        → IfSome o (λ (entry : TableEntry). RowsHaveKinds (rows_made c (option_map_or (λ (known : TableEntry). column_kinds known.columns) o []) rows) (column_kinds entry.columns))
    chosen None e = tt
    chosen (Some entry) e = rows-have (column_kinds entry.columns) rows regular e

  copy-adds : (o : Option TableEntry) → IfSome o (λ (entry : TableEntry). option_map_or (λ (known : TableEntry). column_kinds known.columns) o [] ≡ column_kinds entry.columns)
  copy-adds None = tt
  copy-adds (Some entry) = refl

  view-sound : (tree : QueryTree) → RegularQuery tree → (query_meant c tree).breaks ≡ [] → IsSoundView c (view_entry (query_meant c tree))
  view-sound tree regular whole =
      let m : QueryMeant = query_meant c tree in
      let a : IsAnswer m = query-answer c tree alone sound regular whole in
      record { answer = sound-answer c tree sound regular whole; places = a.places; reads = view-reads c sound tree }

  body-adds : (body : StatementBody) → RegularStatementBody body → name_breaks c body ≡ [] → AddsSoundly c (resolved_body c body)
  body-adds (st.CreateTable table columns) regular whole =
      table-columns columns regular.0 regular.1 (back-none (taken c table) (repeated_columns [] columns) whole)
  body-adds (st.CreateTableAs table query) regular whole = answer-adds c sound table query regular whole
  body-adds (st.CreateView name query) regular whole =
      let more : List Break = named_query_breaks query.at (query_meant c query) in
      view-sound query regular
      (front-none (query_meant c query).breaks (broken_if (repeats (names_of (columns_of (query_meant c query)))) rule.RepeatedColumn query.at) (back-none (taken c name) more whole))
  body-adds (st.Copy table file header null_field) regular whole = copy-adds (table_named c table.text)
  body-adds (st.Insert table rows) regular whole = insert-adds table rows (all-of RegularRow rows regular.1) whole
  body-adds (st.Delete table condition) regular whole = tt
  body-adds (st.DropTable table) regular whole = tt
  body-adds (st.DropView name) regular whole = tt
  body-adds (st.Select query) regular whole = tt
  body-adds (st.Explain query) regular whole = tt
  body-adds (st.ShowFresh table) regular whole = tt
  body-adds (st.Impact table condition query) regular whole = tt

pub whole-adds : (c : Contents) (statement : Statement) → IsSound c → RegularStatement statement
    → breaks c statement ≡ [] → AddsSoundly c (resolved c statement)
whole-adds c statement sound regular whole = body-adds c sound statement.body regular (names-whole c statement whole)
