-- Faults alone, and the condition of a deletion.
use Rattle.std.proofs.Common.{◌≡◌, inl, inr, Bool, cond, not, List, [], ◌∷◌, ◌++◌, Some, refl, sym, ap, ◌∙◌}
use Rattle.null_logic.specs.declared.truth.Truth.TheVariants.{True, False}
use Rattle.perm_values.specs.declared.value.Value.{Value}
use Rattle.perm_values.specs.declared.value.Value.TheVariants.{Boolean}
use Rattle.bag_algebra.proofs.Members.{IsIn}
use Rattle.bag_algebra.proofs.TruthValues.{holds-boolean}
use Rattle.bag_algebra.specs.Bags.{Row, Bag}
use Rattle.bag_algebra.specs.Expressions.{value, has_truth}
use Rattle.bag_algebra.specs.Means.{holds_of, is_met, kept}
use Rattle.bag_algebra.specs.Outcome.{Outcome, Good, Bad, mapped, both, gather, each}
use Rattle.bag_algebra.specs.built.Openings.{value-IsTruth}
use Rattle.bag_algebra.specs.declared.expr.Expr.{Expr}
use Rattle.bag_algebra.specs.declared.expr.Expr.TheVariants.{IsTruth}
use Rattle.delete_impact.specs.vanishing.Doomed.{is_doomed}
use Rattle.delete_impact.specs.reduced.Reduced.{not_true}
use Rattle.delete_impact.proofs.Tested.{is_false}

-- ---- faults alone

-- nothing, with these faults
abbrev pub emptied : {X : Type 0} → Outcome X → Outcome Bag
emptied o = mapped (λ x. []) o

emptied-both : {X Y Z V W U : Type 0} (f : X → Y → Z) (g : V → W → U) (a : Outcome X) (b : Outcome Y) (c : Outcome V) (d : Outcome W) →
    emptied a ≡ emptied c → emptied b ≡ emptied d → emptied (both f a b) ≡ emptied (both g c d)
emptied-both f g a b c d e h = split f a b ∙ (λ i. both (λ x y. []) (e i) (h i)) ∙ sym (split g c d) where
  split : {X Y Z : Type 0} (f : X → Y → Z) (a : Outcome X) (b : Outcome Y) → emptied (both f a b) ≡ both (λ x y. []) (emptied a) (emptied b)
  split f (Good x) (Good y) = refl
  split f (Good x) (Bad g) = refl
  split f (Bad g) (Good y) = refl
  split f (Bad g) (Bad h) = refl

emptied-mapped : {X Y Z : Type 0} (f : X → Y) (g : X → Z) (o : Outcome X) → emptied (mapped f o) ≡ emptied (mapped g o)
emptied-mapped f g (Good x) = refl
emptied-mapped f g (Bad faults) = refl

module _ (f : Row → Outcome Value) where
  -- what a condition keeps of rows meets the faults that it meets on them
  pub emptied-kept : (us : Bag) → emptied (gather (kept f) us) ≡ emptied (each (λ u. mapped holds_of (f u)) us)
  emptied-kept [] = refl
  emptied-kept (u ∷ us) =
      emptied-both (λ y ys. y ++ ys) (λ y ys. y ∷ ys) (kept f u) (gather (kept f) us) (mapped holds_of (f u)) (each (λ v. mapped holds_of (f v)) us)
      (emptied-mapped (λ v. cond (holds_of v) (u ∷ []) []) holds_of (f u)) (emptied-kept us)

  first-item : (w u : Row) (us : Bag) (flags : List Bool) (a : Outcome Value) (b : Outcome (List Bool)) → f w ≡ a → both (λ y ys. y ∷ ys) (mapped holds_of a) b ≡ Good flags →
      ((others : List Bool) → b ≡ Good others → IsIn u us → (v : Value) × (f u ≡ Good v)) → IsIn u (w ∷ us) → (v : Value) × (f u ≡ Good v)
  first-item w u us flags (Good v) b here whole further (inl same) = (v, ap f (sym same) ∙ here)
  first-item w u us flags (Good v) (Good others) here whole further (inr later) = further others refl later
  first-item w u us flags (Good v) (Bad g) here whole further (inr later) = absurd (cc whole)
  first-item w u us flags (Bad g) (Good others) here whole further i = absurd (cc whole)
  first-item w u us flags (Bad g) (Bad k) here whole further i = absurd (cc whole)

  -- where all are good, each of them is
  pub each-item : (us : Bag) (flags : List Bool) → each (λ u. mapped holds_of (f u)) us ≡ Good flags → (u : Row) → IsIn u us → (v : Value) × (f u ≡ Good v)
  each-item [] flags e u h = absurd h
  each-item (w ∷ us) flags e u h =
      first-item w u us flags (f w) (each (λ v. mapped holds_of (f v)) us) refl e (λ others rest later. each-item us others rest u later) h

-- ---- the condition of a deletion

module _ (condition : Expr) (u : Row) (v : Value) (good : value condition u [] [] ≡ Good v) where
  -- a row goes where the condition is true on it
  pub doomed-tested : mapped holds_of (value condition u [] []) ≡ Good (is_doomed (Some condition) u)
  doomed-tested = ap (mapped holds_of) good ∙ ap (λ o. Good (is_met o)) (sym good)

  -- and stays where it isn't
  pub spared-tested : mapped holds_of (value (not_true condition) u [] []) ≡ Good (not (is_doomed (Some condition) u))
  spared-tested =
      ap (mapped holds_of)
      (value-IsTruth u [] [] False (IsTruth True condition)
      ∙ ap (mapped (λ w. Boolean (has_truth False w))) (value-IsTruth u [] [] True condition)
      ∙ ap (λ o. mapped (λ w. Boolean (has_truth False w)) (mapped (λ w. Boolean (has_truth True w)) o)) good)
      ∙ ap Good (holds-boolean (has_truth False (Boolean (holds_of v))) ∙ is_false (holds_of v))
      ∙ ap (λ o. Good (not (is_met o))) (sym good)
