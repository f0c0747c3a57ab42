-- Monotone queries: where a table loses rows, the query gains none. They are what selection, projection, inner joins, UNION and
-- DISTINCT make of whole tables, without sublinks.
use Rattle.std.specs.Prelude.{ℕ, Bool, true, false, ◌&&◌, nat_eq, List, length}
use Rattle.std.specs.Cmp.Lexicographic.{pointwise}
use Rattle.std.specs.List.{range_with_len}
use Rattle.bag_algebra.specs.Scoped.{no_subs}
use Rattle.bag_algebra.specs.built.Patterns.{BaseOf, FilterOf, ProjectOf, JoinOf, ApplyOf, UnionOf, IntersectOf, ExceptOf, DistinctOf, AggregateOf, LimitOf, ProvOf}
use Rattle.bag_algebra.specs.declared.query.JoinKind.{JoinKind}
use Rattle.bag_algebra.specs.declared.query.JoinKind.TheVariants.{Inner, Left, Right, Full}
use Rattle.bag_algebra.specs.declared.query.Label.{Label}
use Rattle.bag_algebra.specs.declared.query.Label.TheVariants.{Relation, External}
use Rattle.bag_algebra.specs.declared.query.Query.{Query}
use Rattle.bag_algebra.specs.declared.query.Query.TheVariants.{Table, Single, Base', Filter', Project', Join', Apply', Union', Intersect', Except', Distinct', Aggregate', Limit', Prov'}

-- the places of all columns of a row of this width, in order
abbrev pub are_all_places : ℕ → List ℕ → Bool
are_all_places width places = pointwise nat_eq places (range_with_len 0 width)

-- the query is a table, and the places are those of all its columns
abbrev pub is_whole_table : Query → List ℕ → Bool
is_whole_table (Table id kinds) places = are_all_places (length kinds) places
is_whole_table Single places = false
is_whole_table (BaseOf input own label) places = false
is_whole_table (FilterOf input condition _ subs) places = false
is_whole_table (ProjectOf input items _ subs) places = false
is_whole_table (JoinOf kind left right condition _ subs) places = false
is_whole_table (ApplyOf kind left right) places = false
is_whole_table (UnionOf all left right) places = false
is_whole_table (IntersectOf all left right) places = false
is_whole_table (ExceptOf all left right) places = false
is_whole_table (DistinctOf input) places = false
is_whole_table (AggregateOf input groups aggregates) places = false
is_whole_table (LimitOf input keys count) places = false
is_whole_table (ProvOf input) places = false

abbrev pub is_relation : Label → Bool
is_relation (Relation name columns) = true
is_relation (External columns) = false

abbrev pub is_inner : JoinKind → Bool
is_inner Inner = true
is_inner Left = false
is_inner Right = false
is_inner Full = false

-- sources aside, whether the topmost node gains no row where its inputs lose rows; it has no sublinks
abbrev pub own_monotone : Query → Bool
own_monotone (Table id kinds) = false
own_monotone Single = true
own_monotone (Base' _ input places label) = false
own_monotone (Filter' _ input condition _ subs) = no_subs subs
own_monotone (Project' _ input items _ subs) = no_subs subs
own_monotone (Join' kind _ left _ right condition _ subs) = is_inner kind && no_subs subs
own_monotone (Apply' kind _ left _ right) = false
own_monotone (Union' all _ left _ right) = true
own_monotone (Intersect' all _ left _ right) = false
own_monotone (Except' all _ left _ right) = false
own_monotone (Distinct' _ input) = true
own_monotone (Aggregate' _ input groups aggregates) = false
own_monotone (Limit' _ input keys count) = false
own_monotone (Prov' _ input) = false

-- a source is over a whole table and is named by a relation; every other node is such a node over monotone inputs
abbrev pub is_monotone : Query → Bool
is_monotone (Table id kinds) = false
is_monotone Single = true
is_monotone (BaseOf input places label) = is_relation label && is_whole_table input places
is_monotone (FilterOf input condition _ subs) = no_subs subs && is_monotone input
is_monotone (ProjectOf input items _ subs) = no_subs subs && is_monotone input
is_monotone (JoinOf kind left right condition _ subs) = (is_inner kind && no_subs subs) && (is_monotone left && is_monotone right)
is_monotone (ApplyOf kind left right) = false
is_monotone (UnionOf all left right) = is_monotone left && is_monotone right
is_monotone (IntersectOf all left right) = false
is_monotone (ExceptOf all left right) = false
is_monotone (DistinctOf input) = is_monotone input
is_monotone (AggregateOf input groups aggregates) = false
is_monotone (LimitOf input keys count) = false
is_monotone (ProvOf input) = false
