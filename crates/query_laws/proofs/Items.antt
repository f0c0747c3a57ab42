-- What is in a list, and what evaluating each item of a list gives.
use Rattle.std.proofs.Common.{◌≡◌, inl, inr, ℕ, zero, suc, Some, List, [], ◌∷◌, refl, sym, ap, subst, ◌∙◌}
use Rattle.std.proofs.lemmas.Option.{none-some, same_Some}
use Rattle.std.specs.List.{slice_get}
use Rattle.bag_algebra.proofs.Members.{IsIn}
use Rattle.bag_algebra.specs.Outcome.{Outcome, Good, each}
use Rattle.bag_algebra.proofs.Outcomes.{same_good, both-is}

-- ---- good evaluations of lists

-- what each item gives is in the answer, and nothing else
pub each-in : {X Y : Type 0} (f : X → Outcome Y) (xs : List X) (ys : List Y) (x : X) (y : Y) → each f xs ≡ Good ys → IsIn x xs → f x ≡ Good y → IsIn y ys
each-in f [] ys x y e h g = absurd h
each-in f (z ∷ xs) ys x y e h g =
    let parts = both-is (λ v vs. v ∷ vs) (f z) (each f xs) ys e in
    subst (IsIn y) parts.4 (elim h [
      | inl same ↦ inl (same_good parts.0 y (sym parts.2 ∙ ap f same ∙ g))
      | inr there ↦ inr (each-in f xs parts.1 x y parts.3 there g)
    ])

pub from-each : {X Y : Type 0} (f : X → Outcome Y) (xs : List X) (ys : List Y) (y : Y) → each f xs ≡ Good ys → IsIn y ys → (x : X) × IsIn x xs × (f x ≡ Good y)
from-each f [] ys y e h = absurd (subst (IsIn y) (sym (same_good [] ys e)) h)
from-each f (z ∷ xs) ys y e h =
    let parts = both-is (λ v vs. v ∷ vs) (f z) (each f xs) ys e in
    first f z xs y parts.0 parts.1 parts.2 (subst (IsIn y) (sym parts.4) h) (λ k. from-each f xs parts.1 y parts.3 k)
  where
    first : {X Y : Type 0} (f : X → Outcome Y) (z : X) (xs : List X) (y v : Y) (vs : List Y) → f z ≡ Good v → IsIn y (v ∷ vs) →
        (IsIn y vs → (x : X) × IsIn x xs × (f x ≡ Good y)) → (x : X) × IsIn x (z ∷ xs) × (f x ≡ Good y)
    first f z xs y v vs here (inl same) after = (z, inl refl, here ∙ ap Good same)
    first f z xs y v vs here (inr there) after = let found = after there in (found.0, inr found.1, found.2)

pub each-at : {X Y : Type 0} (f : X → Outcome Y) (xs : List X) (ys : List Y) → each f xs ≡ Good ys → (place : ℕ) (x : X) → slice_get xs place ≡ Some x →
    (y : Y) × (slice_get ys place ≡ Some y) × (f x ≡ Good y)
each-at f [] ys e place x h = absurd (none-some x h)
each-at f (z ∷ xs) ys e zero x h =
    let parts = both-is (λ v vs. v ∷ vs) (f z) (each f xs) ys e in
    (parts.0, ap (λ l. slice_get l 0) (sym parts.4), ap f (sym (same_Some z x h)) ∙ parts.2)
each-at f (z ∷ xs) ys e (suc place) x h =
    let parts = both-is (λ v vs. v ∷ vs) (f z) (each f xs) ys e in
    let found = each-at f xs parts.1 parts.3 place x h in
    (found.0, ap (λ l. slice_get l (suc place)) (sym parts.4) ∙ found.1, found.2)
