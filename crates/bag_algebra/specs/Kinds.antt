-- The kinds of the columns of a query, its places of provenance, and their widths.
use Rattle.std.specs.Prelude.{ℕ, List, [], ◌∷◌, ◌++◌, map, length, slice_index_or}
use Rattle.perm_values.specs.declared.kind.Kind.{Kind}
use Rattle.perm_values.specs.declared.kind.Kind.TheVariants.{Text}
use Rattle.bag_algebra.specs.built.Patterns.{BaseOf, FilterOf, ProjectOf, JoinOf, ApplyOf, UnionOf, IntersectOf, ExceptOf, DistinctOf, AggregateOf, LimitOf, ProvOf}
use Rattle.bag_algebra.specs.declared.expr.Item.{Item}
use Rattle.bag_algebra.specs.declared.query.Aggr.{Aggr}
use Rattle.bag_algebra.specs.declared.place.Place.{Place}
use Rattle.bag_algebra.specs.declared.query.Query.{Query, Row_of-Sublink, more_of-Sublink, end_of-Sublink}
use Rattle.bag_algebra.specs.declared.query.Query.TheVariants.{Table, Single}

abbrev pub kind_in : List Kind → ℕ → Kind
kind_in kinds place = slice_index_or kinds place Text

abbrev pub kinds_in : List Kind → List ℕ → List Kind
kinds_in kinds places = map (kind_in kinds) places

abbrev pub item_kinds : List Item → List Kind
item_kinds items = map (λ (item : Item). item.kind) items

abbrev pub aggregate_kinds : List Aggr → List Kind
aggregate_kinds aggregates = map (λ (aggregate : Aggr). aggregate.kind) aggregates

-- the columns of all places, one place after another
abbrev pub place_kinds : List Place → List Kind
place_kinds [] = []
place_kinds (place ∷ places) = place.kinds ++ place_kinds places

abbrev mutual
  -- the kinds of a query's columns
  pub kinds_of : Query → List Kind
  kinds_of (Table id kinds) = kinds
  kinds_of Single = []
  kinds_of (BaseOf input places label) = kinds_of input
  kinds_of (FilterOf input condition _ subs) = kinds_of input
  kinds_of (ProjectOf input items _ subs) = item_kinds items
  kinds_of (JoinOf kind left right condition _ subs) = kinds_of left ++ kinds_of right
  kinds_of (ApplyOf kind left right) = kinds_of left ++ kinds_of right
  kinds_of (UnionOf all left right) = kinds_of left
  kinds_of (IntersectOf all left right) = kinds_of left
  kinds_of (ExceptOf all left right) = kinds_of left
  kinds_of (DistinctOf input) = kinds_of input
  kinds_of (AggregateOf input groups aggregates) = kinds_in (kinds_of input) groups ++ aggregate_kinds aggregates
  kinds_of (LimitOf input keys count) = kinds_of input
  kinds_of (ProvOf input) = kinds_of input ++ place_kinds (shape input)

  -- the places of a query's witness lists: one for each source (Glavic and Alonso, ICDE 2009)
  pub shape : Query → List Place
  shape (Table id kinds) = []
  shape Single = []
  shape (BaseOf input places label) = record { label = label; kinds = kinds_in (kinds_of input) places } ∷ []
  shape (FilterOf input condition _ subs) = shape input ++ sub_shape subs
  shape (ProjectOf input items _ subs) = shape input ++ sub_shape subs
  shape (JoinOf kind left right condition _ subs) = shape left ++ shape right ++ sub_shape subs
  shape (ApplyOf kind left right) = shape left ++ shape right
  shape (UnionOf all left right) = shape left ++ shape right
  shape (IntersectOf all left right) = shape left ++ shape right
  shape (ExceptOf all left right) = shape left ++ shape right
  shape (DistinctOf input) = shape input
  shape (AggregateOf input groups aggregates) = shape input
  shape (LimitOf input keys count) = shape input
  shape (ProvOf input) = []

  -- the places of the sublinks' queries, in the order of their numbers
  pub sub_shape : {m : _} → Row_of-Sublink m → List Place
  sub_shape end_of-Sublink = []
  sub_shape (more_of-Sublink kind tested query subs) = shape query ++ sub_shape subs

abbrev pub width_of : Query → ℕ
width_of q = length (kinds_of q)
