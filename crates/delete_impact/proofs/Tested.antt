-- What a condition keeps of rows, where it is good on each of them.
use Rattle.std.proofs.Common.{◌≡◌, inl, inr, Bool, true, false, cond, not, [], ◌∷◌, ◌++◌, filter, refl, ap, ◌∙◌}
use Rattle.null_logic.specs.declared.truth.Truth.TheVariants.{False}
use Rattle.perm_values.specs.declared.value.Value.{Value}
use Rattle.perm_values.specs.declared.value.Value.TheVariants.{Boolean}
use Rattle.bag_algebra.proofs.Members.{IsIn}
use Rattle.bag_algebra.specs.Bags.{Row, Bag}
use Rattle.bag_algebra.specs.Expressions.{has_truth}
use Rattle.bag_algebra.specs.Means.{holds_of, kept}
use Rattle.bag_algebra.specs.Outcome.{Outcome, Good, Bad, mapped, both, gather}
use Rattle.query_laws.proofs.Filtered.{put_before}

pub is_false : (b : Bool) → has_truth False (Boolean b) ≡ not b
is_false true = refl
is_false false = refl

-- what a condition that is good on a row keeps of it
kept-tested : (u : Row) (o : Outcome Value) (b : Bool) → mapped holds_of o ≡ Good b → mapped (λ v. cond (holds_of v) (u ∷ []) []) o ≡ Good (cond b (u ∷ []) [])
kept-tested u (Good v) b e = ap (mapped (λ c. cond c (u ∷ []) [])) e
kept-tested u (Bad f) b e = ap (mapped (λ c. cond c (u ∷ []) [])) e

-- a condition that is good on each row keeps those that pass
pub gather-tested : (f : Row → Outcome Value) (passes : Row → Bool) (us : Bag) → ((u : Row) → IsIn u us → mapped holds_of (f u) ≡ Good (passes u)) →
    gather (kept f) us ≡ Good (filter passes us)
gather-tested f passes [] h = refl
gather-tested f passes (u ∷ us) h =
    (λ i. both (λ y ys. y ++ ys) (kept-tested u (f u) (passes u) (h u (inl refl)) i) (gather-tested f passes us (λ v k. h v (inr k)) i))
    ∙ ap Good (put_before (passes u) u (filter passes us))
