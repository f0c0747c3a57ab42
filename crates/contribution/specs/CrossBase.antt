-- All rows that the sources of a query could contribute, in all combinations (the cross base of the strategy Gen: Glavic
-- and Alonso, EDBT 2009).
use Rattle.std.specs.Prelude.{ℕ, true, List, [], ◌∷◌, ◌++◌}
use Rattle.bag_algebra.specs.ColumnItems.{column_items}
use Rattle.bag_algebra.specs.Kinds.{kinds_in}
use Rattle.bag_algebra.specs.built.Patterns.{BaseOf, FilterOf, ProjectOf, JoinOf, ApplyOf, UnionOf, IntersectOf, ExceptOf, DistinctOf, AggregateOf, LimitOf, ProvOf}
use Rattle.bag_algebra.specs.declared.query.JoinKind.TheVariants.{Inner}
use Rattle.bag_algebra.specs.declared.query.Query.{Query, Row_of-Sublink, more_of-Sublink, end_of-Sublink}
use Rattle.bag_algebra.specs.declared.query.Query.TheVariants.{Table, Single}
use Rattle.bag_algebra.specs.declared.query.Sublink.{Sublink}
use Rattle.contribution.specs.NullRow.{null_row_of}
use Rattle.contribution.specs.Conjunctions.{always}
use Rattle.contribution.specs.declared.cross.TableSource.{TableSource}

-- a source with that input, where it is a table
abbrev pub base_source : Query → List ℕ → List TableSource
base_source (Table id kinds) places = record { id = id; kinds = kinds; places = places } ∷ []
base_source other places = []

-- the sources of a query that are over tables, in the order of its places
abbrev mutual
  pub table_sources : Query → List TableSource
  table_sources (Table id kinds) = []
  table_sources Single = []
  table_sources (BaseOf input places label) = base_source input places
  table_sources (FilterOf input condition _ subs) = table_sources input ++ sub_table_sources subs
  table_sources (ProjectOf input items _ subs) = table_sources input ++ sub_table_sources subs
  table_sources (JoinOf kind left right condition _ subs) = table_sources left ++ table_sources right ++ sub_table_sources subs
  table_sources (ApplyOf kind left right) = table_sources left ++ table_sources right
  table_sources (UnionOf all left right) = table_sources left ++ table_sources right
  table_sources (IntersectOf all left right) = table_sources left ++ table_sources right
  table_sources (ExceptOf all left right) = table_sources left ++ table_sources right
  table_sources (DistinctOf input) = table_sources input
  table_sources (AggregateOf input groups aggregates) = table_sources input
  table_sources (LimitOf input keys count) = table_sources input
  table_sources (ProvOf input) = []

  pub sub_table_sources : {m : _} → Row_of-Sublink m → List TableSource
  sub_table_sources end_of-Sublink = []
  sub_table_sources (more_of-Sublink kind tested query subs) = table_sources query ++ sub_table_sources subs

-- the same on plain lists of sublinks
abbrev pub subs_table_sources : List Sublink → List TableSource
subs_table_sources [] = []
subs_table_sources (sub ∷ subs) = table_sources sub.query ++ subs_table_sources subs

-- the rows of the table at the source's places, and one row of NULLs
abbrev pub source_query : TableSource → Query
source_query source =
    UnionOf true (ProjectOf (Table source.id source.kinds) (column_items source.kinds source.places) [] end_of-Sublink)
    (null_row_of (kinds_in source.kinds source.places))

-- the sources beside one another, in front of the rest
abbrev pub crossed : List TableSource → Query → Query
crossed [] rest = rest
crossed (source ∷ sources) rest = JoinOf Inner (source_query source) (crossed sources rest) always [] end_of-Sublink

abbrev pub cross_base_of : Query → Query
cross_base_of query = crossed (table_sources query) Single
