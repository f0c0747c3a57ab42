-- What a query means on a database under outer rows, backwards from the query as written: nested loops, without
-- hashing, order of work or early end. Each node is one word of `Means`.
use Rattle.std.specs.Prelude.{ℕ, List, [], ◌∷◌, map, Option, Some, None}
use Rattle.perm_values.specs.declared.value.Value.{Value}
use Rattle.perm_values.specs.declared.value.Value.TheVariants.{Null}
use Rattle.bag_algebra.specs.Bags.{Row, Bag}
use Rattle.bag_algebra.specs.Expressions.{value}
use Rattle.bag_algebra.specs.Kinds.{shape, width_of}
use Rattle.bag_algebra.specs.Means.{Means, Witness, SubMeans, no_subs, with_sub, all_empty, unlisted_means, base_means, filter_means, project_means, join_means, apply_means, union_means, intersect_means, except_means, distinct_means, limit_means, aggregate_means, provenance_means}
use Rattle.bag_algebra.specs.Outcome.{Outcome, Good, and_then, each}
use Rattle.bag_algebra.specs.built.Patterns.{BaseOf, FilterOf, ProjectOf, JoinOf, ApplyOf, UnionOf, IntersectOf, ExceptOf, DistinctOf, AggregateOf, LimitOf, ProvOf}
use Rattle.bag_algebra.specs.declared.expr.Expr.{Expr}
use Rattle.bag_algebra.specs.declared.expr.Item.{Item}
use Rattle.bag_algebra.specs.declared.query.AggFn.{AggFn}
use Rattle.bag_algebra.specs.declared.query.Aggr.{Aggr}
use Rattle.bag_algebra.specs.declared.query.Query.{Query, Row_of-Sublink, more_of-Sublink, end_of-Sublink}
use Rattle.bag_algebra.specs.declared.query.Query.TheVariants.{Table, Single}

-- the rows of each identity; an identity without a table has none
abbrev pub Database : Type 0
Database = ℕ → Bag

-- a condition on a row: the sublinks first, then the condition itself
abbrev pub condition_on : Expr → List Row → SubMeans → Row → Outcome Value
condition_on condition env subs u = and_then (subs.answers u) (value condition u env)

-- the items on a row: the sublinks first, then all items
abbrev pub items_on : List Item → List Row → SubMeans → Row → Outcome Row
items_on items env subs u = and_then (subs.answers u) (λ answers. each (λ (item : Item). value item.expr u env answers) items)

-- the value of a part that may be left out
abbrev pub optional_value : Option Expr → List Row → Row → Outcome Value
optional_value None env u = Good Null
optional_value (Some part) env u = value part u env []

abbrev pub functions_of : List Aggr → List AggFn
functions_of aggregates = map (λ (aggregate : Aggr). aggregate.function) aggregates

-- the arguments of the aggregates on a row
abbrev pub arguments_on : List Aggr → List Row → Row → Outcome Row
arguments_on aggregates env u = each (λ (aggregate : Aggr). optional_value aggregate.argument env u) aggregates

abbrev mutual
  pub denote : Query → Database → List Row → Means
  denote (Table id kinds) db env = unlisted_means (Good (db id))
  denote Single db env = unlisted_means (Good ([] ∷ []))
  denote (BaseOf input places label) db env = base_means places (denote input db env)
  denote (FilterOf input condition _ subs) db env =
      let s = sub_denote subs db env in
      filter_means (condition_on condition env s) s.contributions (denote input db env)
  denote (ProjectOf input items _ subs) db env =
      let s = sub_denote subs db env in
      project_means (items_on items env s) s.contributions (denote input db env)
  denote (JoinOf kind left right condition _ subs) db env =
      let s = sub_denote subs db env in
      join_means kind (condition_on condition env s) s.contributions
      (record { left = all_empty (shape left); right = all_empty (shape right); subs = s.blank })
      (width_of left) (width_of right) (denote left db env) (denote right db env)
  denote (ApplyOf kind left right) db env =
      apply_means kind (width_of right) (all_empty (shape right)) (denote left db env) (λ u. denote right db (u ∷ env))
  denote (UnionOf all left right) db env =
      union_means all (all_empty (shape left)) (all_empty (shape right)) (denote left db env) (denote right db env)
  denote (IntersectOf all left right) db env = intersect_means all (denote left db env) (denote right db env)
  denote (ExceptOf all left right) db env =
      except_means all (all_empty (shape right)) (denote left db env) (denote right db env)
  denote (DistinctOf input) db env = distinct_means (denote input db env)
  denote (AggregateOf input groups aggregates) db env =
      aggregate_means groups (functions_of aggregates) (arguments_on aggregates env)
      (all_empty (shape input)) (denote input db env)
  denote (LimitOf input keys count) db env = limit_means keys count (denote input db env)
  denote (ProvOf input) db env = provenance_means (denote input db env)

  -- the sublinks of a node; their queries see the node's row as the nearest outer row
  pub sub_denote : {m : _} → Row_of-Sublink m → Database → List Row → SubMeans
  sub_denote end_of-Sublink db env = no_subs
  sub_denote (more_of-Sublink kind tested query subs) db env =
      with_sub kind (optional_value tested env) (λ u. denote query db (u ∷ env)) (all_empty (shape query)) (sub_denote subs db env)

-- the rows of a query as a bag, or the faults that it meets
abbrev pub meaning : Query → Database → List Row → Outcome Bag
meaning q db env = (denote q db env).rows

-- the witness lists of a row
abbrev pub witnesses : Query → Database → List Row → Row → List Witness
witnesses q db env t = (denote q db env).lists t
