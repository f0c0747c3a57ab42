-- The word PROVENANCE in a subquery of FROM and in a view: sources over the PROVENANCE of the same query without it.
use Rattle.std.specs.Prelude.{◌≡◌, ℕ, List, [], Some}
use Rattle.bag_algebra.specs.declared.query.Query.TheVariants.{Prov}
use Rattle.name_meaning.specs.Froms.{Read, external, in_from}
use Rattle.name_meaning.specs.Meanings.{QueryMeant, query_means_at}
use Rattle.name_meaning.specs.Queries.{count_columns, provenance_places}
use Rattle.name_meaning.specs.Trees.{query_of}
use Rattle.name_meaning.specs.declared.scope.Scope.{Scope}
use Rattle.perm_catalog.specs.Contents.{Contents}
use Rattle.perm_catalog.specs.declared.entries.ViewEntry.{ViewEntry}
use Rattle.sql_tree.specs.declared.query.QueryTree.{QueryTree}

abbrev pub subquery : Contents → List Scope → QueryTree → QueryMeant
subquery c outer tree = query_means_at (query_of c tree) (in_from outer)

-- what an item reads without a mark is a source over the PROVENANCE of this query, which breaks nothing: at the columns behind the
-- query's own, where all columns have these names
pub record IsOverProvenance (names : List (List ℕ)) (read : Read) (plain : QueryMeant) : Type 0 where
  pub whole : plain.breaks ≡ []
  pub query : read.query ≡ Prov (plain.make [])
  pub source : read.plain ≡ external (Prov (plain.make [])) names (provenance_places (count_columns plain.columns) (plain.make []))

-- the view keeps the PROVENANCE of this query, with the places of the columns behind the query's own
pub record KeepsProvenance (entry : ViewEntry) (plain : QueryMeant) : Type 0 where
  pub whole : plain.breaks ≡ []
  pub query : entry.answer.query ≡ Prov (plain.make [])
  pub places : entry.places ≡ Some (provenance_places (count_columns plain.columns) (plain.make []))
