-- What SHOW FRESH answers of a table, and what it says of its rows.
use Rattle.std.specs.Prelude.{◌≡◌, ℕ, List, [], codes, Some}
use Rattle.bag_algebra.specs.Bags.{Row}
use Rattle.bag_algebra.specs.Meaning.{denote, meaning}
use Rattle.bag_algebra.specs.Outcome.{Good}
use Rattle.bag_algebra.specs.Rewriting.{SameRows}
use Rattle.bag_algebra.specs.TableRows.{rows_in}
use Rattle.bag_algebra.specs.TablesRead.{EachTable}
use Rattle.bag_algebra.specs.declared.query.Query.{Query}
use Rattle.contribution.specs.SameMeaning.{SameMeaning}
use Rattle.perm_catalog.specs.Changes.{rows_at, table_named}
use Rattle.perm_catalog.specs.Contents.{Contents}
use Rattle.perm_catalog.specs.Held.{IsHeldTable}
use Rattle.perm_catalog.specs.declared.entries.StoredQuery.{StoredQuery}
use Rattle.perm_catalog.specs.declared.entries.TableEntry.{TableEntry}
use Rattle.query_laws.specs.replaced.OverQueries.{over_queries, standing}
use Rattle.sql_tree.specs.declared.name.Name.{Name}
use Rattle.statement_meaning.specs.Turns.{freshness_text}

-- the table stores a query for which it stands
pub record StandsForQuery (c : Contents) (entry : TableEntry) : Type 0 where
  pub stored : StoredQuery
  pub stores : entry.stored ≡ Some stored
  -- the query meets no fault on the catalog's tables, and has the table's rows there, as often
  pub rows : SameRows (meaning stored.query (rows_in c.rows) []) (Good (rows_at c entry.id))
  -- whatever reads the catalog's tables may read the query in the place of the table: it has the same faults, or the same rows as often, and each row
  -- has the same witness lists
  pub read : (q : Query) (env : List Row) → EachTable (IsHeldTable c) q
      → SameMeaning (denote q (rows_in c.rows) env) (denote (over_queries (standing entry.id stored.query) q) (rows_in c.rows) env)

-- SHOW FRESH tells of a table of the catalog whether it stores provenance, and what has become of the tables that its query read
pub record ShowsFresh (c : Contents) (table : Name) (text : List ℕ) : Type 0 where
  pub entry : TableEntry
  pub named : table_named c table.text ≡ Some entry
  pub says : text ≡ freshness_text c entry.stored
  -- where it says `fresh` the table stands for its query
  pub fresh : text ≡ codes "fresh\n" → StandsForQuery c entry
