-- Whether the sources of a query are over tables alone. That is what the strategy Gen of Glavic and Alonso (EDBT 2009) asks of
-- a sublink, since it looks up all rows that the sublink could contribute.
use Rattle.std.specs.Prelude.{Bool, true, false, ◌&&◌}
use Rattle.bag_algebra.specs.built.Patterns.{BaseOf, FilterOf, ProjectOf, JoinOf, ApplyOf, UnionOf, IntersectOf, ExceptOf, DistinctOf, AggregateOf, LimitOf, ProvOf}
use Rattle.bag_algebra.specs.declared.query.Query.{Query, Row_of-Sublink, more_of-Sublink, end_of-Sublink}
use Rattle.bag_algebra.specs.declared.query.Query.TheVariants.{Table, Single, Base', Filter', Project', Join', Apply', Union', Intersect', Except', Distinct', Aggregate', Limit', Prov'}

abbrev pub is_table : Query → Bool
is_table (Table id kinds) = true
is_table Single = false
is_table (BaseOf input places label) = false
is_table (FilterOf input condition _ subs) = false
is_table (ProjectOf input items _ subs) = false
is_table (JoinOf kind left right condition _ subs) = false
is_table (ApplyOf kind left right) = false
is_table (UnionOf all left right) = false
is_table (IntersectOf all left right) = false
is_table (ExceptOf all left right) = false
is_table (DistinctOf input) = false
is_table (AggregateOf input groups aggregates) = false
is_table (LimitOf input keys count) = false
is_table (ProvOf input) = false

-- the input of each source of the query is a table; the sources are those that have a place in its `shape`
abbrev mutual
  pub over_tables : Query → Bool
  over_tables (Table id kinds) = true
  over_tables Single = true
  over_tables (BaseOf input places label) = is_table input
  over_tables (FilterOf input condition _ subs) = over_tables input && subs_over_tables subs
  over_tables (ProjectOf input items _ subs) = over_tables input && subs_over_tables subs
  over_tables (JoinOf kind left right condition _ subs) = (over_tables left && over_tables right) && subs_over_tables subs
  over_tables (ApplyOf kind left right) = over_tables left && over_tables right
  over_tables (UnionOf all left right) = over_tables left && over_tables right
  over_tables (IntersectOf all left right) = over_tables left && over_tables right
  over_tables (ExceptOf all left right) = over_tables left && over_tables right
  over_tables (DistinctOf input) = over_tables input
  over_tables (AggregateOf input groups aggregates) = over_tables input
  over_tables (LimitOf input keys count) = over_tables input
  over_tables (ProvOf input) = true

  pub subs_over_tables : {m : _} → Row_of-Sublink m → Bool
  subs_over_tables end_of-Sublink = true
  subs_over_tables (more_of-Sublink kind tested query subs) = over_tables query && subs_over_tables subs

-- there is no sublink
abbrev pub no_subs : {m : _} → Row_of-Sublink m → Bool
no_subs end_of-Sublink = true
no_subs (more_of-Sublink kind tested query subs) = false
