-- What the tree of an answer's form is read as has the rows of the answer.
use Rattle.std.proofs.Common.{◌≡◌, ℕ, zero, suc, true, All, List, [], ◌∷◌, length, Option, Some, None, sym, ap, subst, ◌∙◌, arith}
use Rattle.std.proofs.lemmas.Bool.{and_parts}
use Rattle.std.specs.List.{list_all}
use Rattle.std.specs.Option.{option_map_or}
use Rattle.perm_values.specs.Rows.{row_fits}
use Rattle.perm_values.specs.declared.key.Key.{Key}
use Rattle.perm_values.specs.declared.kind.Kind.{Kind}
use Rattle.bag_algebra.proofs.Outcomes.{same_rows-itself}
use Rattle.bag_algebra.proofs.TablesRead.{each_table-both}
use Rattle.bag_algebra.specs.Bags.{Row}
use Rattle.bag_algebra.specs.Fits.{bag_fits}
use Rattle.bag_algebra.specs.Kinds.{kinds_of}
use Rattle.bag_algebra.specs.Meaning.{Database, meaning}
use Rattle.bag_algebra.specs.Outcome.{Good}
use Rattle.bag_algebra.specs.Rewriting.{SameRows}
use Rattle.bag_algebra.specs.TablesRead.{EachTable}
use Rattle.bag_algebra.specs.WellFormed.{WellFormed}
use Rattle.bag_algebra.specs.built.Openings.{meaning-Base}
use Rattle.bag_algebra.specs.declared.query.Answer.{Answer}
use Rattle.bag_algebra.specs.declared.query.Query.{Query}
use Rattle.bag_algebra.specs.declared.query.Query.TheVariants.{Single, Table}
use Rattle.contribution.proofs.RowKinds.{row_fits-length}
use Rattle.perm_catalog.specs.Columns.{column_kinds}
use Rattle.perm_catalog.specs.Contents.{Contents}
use Rattle.perm_catalog.specs.declared.entries.StoredQuery.{StoredQuery}
use Rattle.perm_catalog.specs.declared.entries.TableEntry.{TableEntry}
use Rattle.sql_tree.specs.declared.query.QueryTree.{QueryTree}
use Rattle.name_meaning.specs.Froms.{table_plain}
use Rattle.statement_meaning.specs.explains.Explains.{GivesTables, MeansTheSame, read_as}
use Rattle.query_texts.specs.clauses.Names.{names_of as table_names}
use Rattle.query_texts.specs.declared.clauses.tables.TableNames.{TableNames}
use Rattle.sql_printer.proofs.rows.ShownQueries.{answer-read as rows-read}
use Rattle.sql_printer.specs.rows.Carried.{IsGiven}
use Rattle.sql_printer.specs.rows.Printed.{printed_answer}
use Rattle.sql_printer.specs.rows.Writable.{WritableQuery}
use Rattle.sql_printer.specs.answers.ReadAs.{IsNamed, IsReadAs, source_in}

-- ---- rows of a table

rows-wide : (rows : List Row) (all : List Kind) → list_all (λ row. row_fits row all) rows ≡ true → All (λ (row : Row). length row ≡ length all) rows
rows-wide [] all e k d low = absurd (omega (arith, low))
rows-wide (row ∷ rows) all e zero d low = row_fits-length row all (and_parts (row_fits row all) (list_all (λ row. row_fits row all) rows) e).0
rows-wide (row ∷ rows) all e (suc k) d low = rows-wide rows all (and_parts (row_fits row all) (list_all (λ row. row_fits row all) rows) e).1 k d (omega (arith, low))

plain-rows : (db : Database) (env : List Row) (name : List ℕ) (table : TableEntry) → meaning (table_plain name table) db env ≡ Good (db table.id)
plain-rows db env name table = by table.stored
  where
    own : Query
    own = Table table.id (column_kinds table.columns)

    by : (stored : Option StoredQuery) → meaning (table_plain name (record table { stored = stored })) db env ≡ Good (db table.id)
    by None = meaning-Base db env own _ _
    by (Some mark) = meaning-Base db env own _ _

-- ---- what the names of tables stand for

module _ (c : Contents) (tables : List TableNames) (db : Database) (given : GivesTables c db) where
  is-given : (id : ℕ) (all : List Kind) → IsNamed c tables id all → IsNamed c tables id all → IsGiven (source_in c tables) db id all
  is-given id all n other =
      let name = (table_names tables id).name in
      let fits : bag_fits (db n.table.id) (column_kinds n.table.columns) ≡ true = given name n.table n.found in
      record {
        rows = λ env. ap (λ found. meaning (option_map_or (table_plain name) found Single) db env) n.found ∙ plain-rows db env name n.table ∙ ap (λ own. Good (db own)) n.same;
        wide = rows-wide (db id) all ((λ i. bag_fits (db (sym n.same i)) (sym n.kinds_are i)) ∙ fits);
      }

  pub tables-given : (q : Query) → EachTable (IsNamed c tables) q → EachTable (IsGiven (source_in c tables) db) q
  tables-given q named = each_table-both (IsNamed c tables) (IsNamed c tables) (IsGiven (source_in c tables) db) is-given q named named

pub means-answer : (c : Contents) (tables : List TableNames) (q : Query) (kind : Kind) (more : List Kind) → kinds_of q ≡ kind ∷ more → WellFormed [] q → WritableQuery q
    → EachTable (IsNamed c tables) q → (names : List (List ℕ)) (keys : List Key) (tree : QueryTree)
    → IsReadAs c tree (record { query = printed_answer (source_in c tables) q; names = names; keys = keys })
    → MeansTheSame c (record { query = q; names = names; keys = keys }) (read_as c tree)
means-answer c tables q kind more some form w named names keys tree r = record {
  names = ap (λ (a : Answer). a.names) (sym r.same);
  keys = ap (λ (a : Answer). a.keys) (sym r.same);
  rows = λ db given.
      subst (λ (a : Answer). SameRows (meaning q db []) (meaning a.query db [])) (sym r.same)
      (subst (SameRows (meaning q db [])) (sym (rows-read (source_in c tables) db q kind more some form w (tables-given c tables db given q named)))
      (same_rows-itself (meaning q db [])));
}
