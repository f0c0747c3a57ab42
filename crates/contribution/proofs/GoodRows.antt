-- The rows of good outcomes, and where each comes from.
use Rattle.std.proofs.Common.{◌≡◌, ◌⊎◌, inl, inr, Bool, true, false, cond, List, [], ◌∷◌, ◌++◌, refl, ap}
use Rattle.perm_values.specs.declared.value.Value.{Value}
use Rattle.bag_algebra.proofs.Members.{IsIn, from-append}
use Rattle.bag_algebra.specs.Bags.{Row, Bag}
use Rattle.bag_algebra.specs.Means.{Witness, good_rows, is_met, holds_of, kept, with_lists}
use Rattle.bag_algebra.specs.Outcome.{Outcome, Good, Bad, and_then, mapped, both, both_then, gather, each}

pub good_rows-with_lists : (rows : Outcome Bag) (lists : Row → List Witness) → good_rows (with_lists rows lists).rows ≡ good_rows rows
good_rows-with_lists (Good bag) lists = refl
good_rows-with_lists (Bad faults) lists = refl

pub from-and_then : (o : Outcome Bag) (next : Bag → Outcome Bag) (t : Row) → IsIn t (good_rows (and_then o next)) → IsIn t (good_rows (next (good_rows o)))
from-and_then (Good bag) next t h = h
from-and_then (Bad faults) next t h = absurd h

pub from-mapped : (f : Bag → Bag) (o : Outcome Bag) (t : Row) → IsIn t (good_rows (mapped f o)) → IsIn t (f (good_rows o))
from-mapped f (Good bag) t h = h
from-mapped f (Bad faults) t h = absurd h

pub from-both : (f : Bag → Bag → Bag) (a b : Outcome Bag) (t : Row) → IsIn t (good_rows (both f a b)) → IsIn t (f (good_rows a) (good_rows b))
from-both f (Good us) (Good vs) t h = h
from-both f (Good us) (Bad g) t h = absurd h
from-both f (Bad g) (Good vs) t h = absurd h
from-both f (Bad g) (Bad k) t h = absurd h

pub from-both_then : (a b : Outcome Bag) (next : Bag → Bag → Outcome Bag) (t : Row) → IsIn t (good_rows (both_then a b next)) → IsIn t (good_rows (next (good_rows a) (good_rows b)))
from-both_then (Good us) (Good vs) next t h = h
from-both_then (Good us) (Bad g) next t h = absurd h
from-both_then (Bad g) (Good vs) next t h = absurd h
from-both_then (Bad g) (Bad k) next t h = absurd h

-- a gathered row comes from an item
pub from-gather : {X : Type 0} (f : X → Outcome Bag) (t : Row) (xs : List X) → IsIn t (good_rows (gather f xs)) → (x : X) × IsIn x xs × IsIn t (good_rows (f x))
from-gather f t [] h = absurd h
from-gather f t (x ∷ xs) h =
    elim (from-append t (good_rows (f x)) (good_rows (gather f xs)) (from-both (λ us vs. us ++ vs) (f x) (gather f xs) t h)) [
      | inl l ↦ (x, inl refl, l)
      | inr r ↦ let found = from-gather f t xs r in (found.0, inr found.1, found.2)
    ]

from-first : (a : Outcome Row) (b : Outcome Bag) (t : Row) → IsIn t (good_rows (both (λ u us. u ∷ us) a b)) → (a ≡ Good t) ⊎ IsIn t (good_rows b)
from-first (Good u) (Good us) t (inl e) = inl (ap Good e)
from-first (Good u) (Good us) t (inr h) = inr h
from-first (Good u) (Bad g) t h = absurd h
from-first (Bad g) (Good us) t h = absurd h
from-first (Bad g) (Bad k) t h = absurd h

-- what each item gives comes from an item
pub from-each : {X : Type 0} (f : X → Outcome Row) (t : Row) (xs : List X) → IsIn t (good_rows (each f xs)) → (x : X) × IsIn x xs × (f x ≡ Good t)
from-each f t [] h = absurd h
from-each f t (x ∷ xs) h = elim (from-first (f x) (each f xs) t h) [
  | inl l ↦ (x, inl refl, l)
  | inr r ↦ let found = from-each f t xs r in (found.0, inr found.1, found.2)
]

kept-if : (u t : Row) (b : Bool) → IsIn t (cond b (u ∷ []) []) → (u ≡ t) × (b ≡ true)
kept-if u t true (inl e) = (e, refl)
kept-if u t true (inr h) = absurd h
kept-if u t false h = absurd h

kept-by : (u t : Row) (o : Outcome Value) → IsIn t (good_rows (mapped (λ v. cond (holds_of v) (u ∷ []) []) o)) → (u ≡ t) × (is_met o ≡ true)
kept-by u t (Good v) h = kept-if u t (holds_of v) h
kept-by u t (Bad g) h = absurd h

-- a row that a condition keeps meets it
pub from-kept : (condition : Row → Outcome Value) (u t : Row) → IsIn t (good_rows (kept condition u)) → (u ≡ t) × (is_met (condition u) ≡ true)
from-kept condition u t h = kept-by u t (condition u) h
