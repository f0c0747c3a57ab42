-- A test of every expression that a query holds: conditions, items, arguments of aggregates, and what sublinks test, those of
-- the sublinks' queries included.
use Rattle.std.specs.Prelude.{Bool, true, ◌&&◌, List, Option, Some, None}
use Rattle.std.specs.List.{list_all}
use Rattle.bag_algebra.specs.built.Patterns.{BaseOf, FilterOf, ProjectOf, JoinOf, ApplyOf, UnionOf, IntersectOf, ExceptOf, DistinctOf, AggregateOf, LimitOf, ProvOf}
use Rattle.bag_algebra.specs.declared.expr.Expr.{Expr}
use Rattle.bag_algebra.specs.declared.expr.Item.{Item}
use Rattle.bag_algebra.specs.declared.query.Aggr.{Aggr}
use Rattle.bag_algebra.specs.declared.query.Query.{Query, Row_of-Sublink, more_of-Sublink, end_of-Sublink}
use Rattle.bag_algebra.specs.declared.query.Query.TheVariants.{Table, Single, Base', Filter', Project', Join', Apply', Union', Intersect', Except', Distinct', Aggregate', Limit', Prov'}
use Rattle.bag_algebra.specs.declared.query.Sublink.{Sublink}

-- a part that is left out passes
abbrev pub option_passes : (Expr → Bool) → Option Expr → Bool
option_passes test None = true
option_passes test (Some part) = test part

abbrev pub items_pass : (Expr → Bool) → List Item → Bool
items_pass test items = list_all (λ (item : Item). test item.expr) items

abbrev pub arguments_pass : (Expr → Bool) → List Aggr → Bool
arguments_pass test aggregates = list_all (λ (aggregate : Aggr). option_passes test aggregate.argument) aggregates

-- what the topmost node itself holds, its sublinks aside
abbrev pub own_pass : (Expr → Bool) → Query → Bool
own_pass test (Table id kinds) = true
own_pass test Single = true
own_pass test (Base' _ input places label) = true
own_pass test (Filter' _ input condition _ subs) = test condition
own_pass test (Project' _ input items _ subs) = items_pass test items
own_pass test (Join' kind _ left _ right condition _ subs) = test condition
own_pass test (Apply' kind _ left _ right) = true
own_pass test (Union' all _ left _ right) = true
own_pass test (Intersect' all _ left _ right) = true
own_pass test (Except' all _ left _ right) = true
own_pass test (Distinct' _ input) = true
own_pass test (Aggregate' _ input groups aggregates) = arguments_pass test aggregates
own_pass test (Limit' _ input keys count) = true
own_pass test (Prov' _ input) = true

abbrev mutual
  pub every_expression : (Expr → Bool) → Query → Bool
  every_expression test (Table id kinds) = true
  every_expression test Single = true
  every_expression test (BaseOf input places label) = every_expression test input
  every_expression test (FilterOf input condition _ subs) = (every_expression test input && test condition) && every_in_subs test subs
  every_expression test (ProjectOf input items _ subs) = (every_expression test input && items_pass test items) && every_in_subs test subs
  every_expression test (JoinOf kind left right condition _ subs) =
      ((every_expression test left && every_expression test right) && test condition) && every_in_subs test subs
  every_expression test (ApplyOf kind left right) = every_expression test left && every_expression test right
  every_expression test (UnionOf all left right) = every_expression test left && every_expression test right
  every_expression test (IntersectOf all left right) = every_expression test left && every_expression test right
  every_expression test (ExceptOf all left right) = every_expression test left && every_expression test right
  every_expression test (DistinctOf input) = every_expression test input
  every_expression test (AggregateOf input groups aggregates) = every_expression test input && arguments_pass test aggregates
  every_expression test (LimitOf input keys count) = every_expression test input
  every_expression test (ProvOf input) = every_expression test input

  pub every_in_subs : (Expr → Bool) → {m : _} → Row_of-Sublink m → Bool
  every_in_subs test end_of-Sublink = true
  every_in_subs test (more_of-Sublink kind tested query subs) =
      (option_passes test tested && every_expression test query) && every_in_subs test subs

-- on a plain list of sublinks
abbrev pub sublinks_pass : (Expr → Bool) → List Sublink → Bool
sublinks_pass test subs = list_all (λ (sub : Sublink). option_passes test sub.tested && every_expression test sub.query) subs
