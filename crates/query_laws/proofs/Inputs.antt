-- Inputs that have the same rows or faults give nodes that have.
use Rattle.std.proofs.Common.{◌≡◌, ◌+◌, ◌-◌, ℕ, min, Bool, List, take, sym, subst}
use Rattle.perm_values.specs.Rows.{printed_cmp}
use Rattle.perm_values.specs.declared.key.Key.{Key}
use Rattle.perm_values.specs.declared.value.Value.{Value}
use Rattle.bag_algebra.specs.Bags.{Row, Bag, once, sorted, union_of, intersect_of, except_of}
use Rattle.bag_algebra.specs.Means.{kept, joined_rows, under, grouped}
use Rattle.bag_algebra.specs.Outcome.{Outcome, Good, and_then, mapped, both, both_then, gather, each}
use Rattle.bag_algebra.specs.Rewriting.{SameRows}
use Rattle.bag_algebra.specs.declared.query.AggFn.{AggFn}
use Rattle.bag_algebra.specs.declared.query.JoinKind.{JoinKind}
use Rattle.query_laws.specs.Holding.{InBag}
use Rattle.query_laws.specs.Nodes.{in_either, in_both, in_left_alone}
use Rattle.query_laws.proofs.Choice.{filter_once, project_once, join_once, apply_once, combined_once, distinct_once, group_once, limit_once}
use Rattle.query_laws.proofs.Applied.{applied}
use Rattle.query_laws.proofs.Combined.{united, intersected, excepted, distinct}
use Rattle.query_laws.proofs.Filtered.{filtered}
use Rattle.query_laws.proofs.Grouped.{grouped-law}
use Rattle.query_laws.proofs.Joined.{joined}
use Rattle.query_laws.proofs.Limited.{limited}
use Rattle.query_laws.proofs.Projected.{projected}
use Rattle.query_laws.proofs.SameInputs.{filter_along, project_along, join_along, apply_along, combined_along, distinct_along, group_along, limit_along}

-- what equals them has the same rows too
pub across : {a b c d : Outcome Bag} → a ≡ b → d ≡ c → SameRows b c → SameRows a d
across {a} {b} {c} {d} e f s = subst (λ o. SameRows o d) (sym e) (subst (λ o. SameRows b o) (sym f) s)

module _ (o p : Outcome Bag) (s : SameRows o p) where
  pub filter-input : (condition : Row → Outcome Value) → SameRows (and_then o (gather (kept condition))) (and_then p (gather (kept condition)))
  filter-input condition =
      filter_once condition p _ _ (filter_along condition o p _ s (filtered condition o)) (filtered condition p)

  pub project-input : (items : Row → Outcome Row) → SameRows (and_then o (each items)) (and_then p (each items))
  project-input items = project_once items p _ _ (project_along items o p _ s (projected items o)) (projected items p)

  pub apply-input : (kind : JoinKind) (width : ℕ) (right another : Row → Outcome Bag) →
      ((us : Bag) (u : Row) → o ≡ Good us → InBag u us → SameRows (right u) (another u)) →
      SameRows (and_then o (gather (λ u. mapped (under kind width u) (right u)))) (and_then p (gather (λ u. mapped (under kind width u) (another u))))
  apply-input kind width right another under_each =
      apply_once kind 0 width p _ _ another (apply_along o p s right another under_each kind 0 width _ (applied kind width 0 o right)) (applied kind width 0 p another)

  pub distinct-input : SameRows (mapped once o) (mapped once p)
  distinct-input = distinct_once p _ _ (distinct_along o p _ s (distinct o)) (distinct p)

  pub limit-input : (keys : List Key) (most : ℕ) →
      SameRows (mapped (λ bag. take most (sorted (printed_cmp keys) bag)) o) (mapped (λ bag. take most (sorted (printed_cmp keys) bag)) p)
  limit-input keys most = limit_once keys most p _ _ (limit_along keys most o p _ s (limited keys most o)) (limited keys most p)

  pub aggregate-input : (groups : List ℕ) (functions : List AggFn) (arguments : Row → Outcome Row) →
      SameRows (and_then o (grouped groups functions arguments)) (and_then p (grouped groups functions arguments))
  aggregate-input groups functions arguments =
      group_once groups functions arguments p _ _ (group_along groups functions arguments o p _ s (grouped-law groups functions arguments o))
      (grouped-law groups functions arguments p)

module _ (o p : Outcome Bag) (s : SameRows o p) (k l : Outcome Bag) (r : SameRows k l) where
  pub join-inputs : (kind : JoinKind) (condition : Row → Outcome Value) (left_width right_width : ℕ) →
      SameRows (both_then o k (joined_rows kind condition left_width right_width)) (both_then p l (joined_rows kind condition left_width right_width))
  join-inputs kind condition left_width right_width =
      join_once kind condition left_width right_width p l _ _
      (join_along kind condition left_width right_width o k p l _ s r (joined kind condition left_width right_width o k))
      (joined kind condition left_width right_width p l)

  pub union-inputs : (all : Bool) → SameRows (both (union_of all) o k) (both (union_of all) p l)
  union-inputs all =
      combined_once ◌+◌ in_either all p l _ _ (combined_along ◌+◌ in_either all o k p l _ s r (united all o k)) (united all p l)

  pub intersect-inputs : (all : Bool) → SameRows (both (intersect_of all) o k) (both (intersect_of all) p l)
  intersect-inputs all =
      combined_once min in_both all p l _ _ (combined_along min in_both all o k p l _ s r (intersected all o k)) (intersected all p l)

  pub except-inputs : (all : Bool) → SameRows (both (except_of all) o k) (both (except_of all) p l)
  except-inputs all =
      combined_once ◌-◌ in_left_alone all p l _ _ (combined_along ◌-◌ in_left_alone all o k p l _ s r (excepted all o k)) (excepted all p l)
