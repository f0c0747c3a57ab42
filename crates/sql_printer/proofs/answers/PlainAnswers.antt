-- What the tree of an answer's form is read as is without PROVENANCE, and names tables alone.
use Rattle.std.proofs.Common.{◌≡◌, ℕ, true, List, [], Option, Some, None, refl, ap, ◌∙◌}
use Rattle.std.specs.Option.{option_map, option_map_or}
use Rattle.perm_values.specs.declared.key.Key.{Key}
use Rattle.perm_values.specs.declared.kind.Kind.{Kind}
use Rattle.bag_algebra.proofs.TablesRead.{each_table-kept}
use Rattle.bag_algebra.specs.Rewriting.{is_plain}
use Rattle.bag_algebra.specs.TablesRead.{EachTable}
use Rattle.bag_algebra.specs.built.Scopes.{is_plain-Base}
use Rattle.bag_algebra.specs.declared.query.Answer.{Answer}
use Rattle.bag_algebra.specs.declared.query.Query.{Query}
use Rattle.bag_algebra.specs.declared.query.Query.TheVariants.{Single, Table}
use Rattle.perm_catalog.specs.Changes.{table_named}
use Rattle.perm_catalog.specs.Columns.{column_kinds}
use Rattle.perm_catalog.specs.Contents.{Contents}
use Rattle.perm_catalog.specs.declared.entries.StoredQuery.{StoredQuery}
use Rattle.perm_catalog.specs.declared.entries.TableEntry.{TableEntry}
use Rattle.name_meaning.specs.Froms.{table_plain}
use Rattle.name_meaning.specs.Statements.{name_breaks}
use Rattle.query_texts.specs.clauses.Names.{names_of}
use Rattle.query_texts.specs.declared.clauses.tables.TableNames.{TableNames}
use Rattle.sql_tree.specs.declared.query.QueryTree.{QueryTree}
use Rattle.sql_tree.specs.declared.statement.StatementBody.TheVariants.{Select}
use Rattle.statement_meaning.specs.explains.Explains.{NamesTables, read_as}
use Rattle.sql_printer.specs.answers.ReadAs.{IsNamed, IsReadAs, source_in}
use Rattle.sql_printer.specs.rows.Printed.{printed_answer}
use Rattle.sql_printer.proofs.rows.PlainReadings.{printed_answer-plain}

-- ---- without PROVENANCE

table-plain : (name : List ℕ) (table : TableEntry) → is_plain (table_plain name table) ≡ true
table-plain name table = by table.stored
  where
    own : Query
    own = Table table.id (column_kinds table.columns)

    by : (stored : Option StoredQuery) → is_plain (table_plain name (record table { stored = stored })) ≡ true
    by None = is_plain-Base own _ _
    by (Some mark) = is_plain-Base own _ _

source-plain : (c : Contents) (tables : List TableNames) (id : ℕ) (kinds : List Kind) → is_plain (source_in c tables id kinds) ≡ true
source-plain c tables id kinds = by (table_named c name)
  where
    name : List ℕ
    name = (names_of tables id).name

    by : (found : Option TableEntry) → is_plain (option_map_or (table_plain name) found Single) ≡ true
    by None = refl
    by (Some table) = table-plain name table

pub read-plain : (c : Contents) (tables : List TableNames) (q : Query) (names : List (List ℕ)) (keys : List Key) (tree : QueryTree)
    → IsReadAs c tree (record { query = printed_answer (source_in c tables) q; names = names; keys = keys })
    → is_plain (read_as c tree).query ≡ true
read-plain c tables q names keys tree r =
    ap (λ (a : Answer). is_plain a.query) r.same ∙ printed_answer-plain (source_in c tables) (source-plain c tables) q

-- ---- tables alone

abbrev pub without_views : Contents → Contents
without_views c = record c { views = [] }

pub named-alone : (c : Contents) (tables : List TableNames) (q : Query) → EachTable (IsNamed c tables) q → EachTable (IsNamed (without_views c) tables) q
named-alone c tables q named = each_table-kept (IsNamed c tables) (IsNamed (without_views c) tables) (λ id kinds n. record {
  table = n.table;
  found = n.found;
  same = n.same;
  kinds_are = n.kinds_are;
  columns_are = n.columns_are;
  distinct = n.distinct;
}) q named

pub names-tables : (c : Contents) (tree : QueryTree) → name_breaks (without_views c) (Select tree) ≡ [] → NamesTables c tree
names-tables c tree whole = record {
  tables = without_views c;
  are = record {
    no_view = refl;
    columns = λ name table found. ap (λ (own : Option TableEntry). option_map (λ (entry : TableEntry). entry.columns) own) found;
  };
  whole = whole;
}
