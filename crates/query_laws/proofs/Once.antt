-- Bags that hold each of some rows once.
use Rattle.std.proofs.Common.{◌≡◌, ◌↔◌, ℕ, zero, suc, ◌<◌, ◌≤◌, Bool, true, false, cond, Decides, sym, subst, arith, true≢false, refl, ◌∷◌}
use Rattle.perm_values.specs.Rows.{same_row}
use Rattle.bag_algebra.proofs.BagLaws.{same_row-refl, count-once, member_decides, at_most_one}
use Rattle.bag_algebra.specs.Bags.{Row, Bag, SameBag, count, member, once}
use Rattle.query_laws.specs.Holding.{InBag, HoldsOnce, Lists}

-- a row is in a bag also with another row in front, and a row in front is in the bag
pub in_bag-behind : (w u : Row) (us : Bag) → InBag w us → InBag w (u ∷ us)
in_bag-behind w u us h = by (same_row u w) where
  by : (b : Bool) → 0 < cond b (suc (count w us)) (count w us)
  by true = omega arith
  by false = h

pub in_bag-front : (u : Row) (us : Bag) → InBag u (u ∷ us)
in_bag-front u us = rw (same_row-refl u) (omega arith)

counted_if : {P : Type 0} (b : Bool) → Decides b P → (0 < cond b 1 0 → P) × (P → 0 < cond b 1 0)
counted_if true d = (λ h. d.0 refl, λ p. omega arith)
counted_if false d = (λ h. absurd (omega arith), λ p. absurd (true≢false (sym (d.1 p))))

-- a bag that counts 1 where a test says so, and otherwise 0
pub holds_once : (P : Row → Type 0) (ts : Bag) (test : Row → Bool) → ((t : Row) → count t ts ≡ cond (test t) 1 0) →
    ((t : Row) → Decides (test t) (P t)) → HoldsOnce P ts
holds_once P ts test counts d = record {
  once = λ t. subst (λ n. n ≤ 1) (sym (counts t)) (at_most_one (test t));
  rows = λ t. subst (λ n. (0 < n → P t) × (P t → 0 < n)) (sym (counts t)) (counted_if (test t) (d t));
}

pub holds_once-once : (P : Row → Type 0) (us : Bag) → ((t : Row) → Decides (member t us) (P t)) → HoldsOnce P (once us)
holds_once-once P us d = holds_once P (once us) (λ t. member t us) (λ t. count-once t us) d

-- each bag has a list of its rows
pub listed : (us : Bag) → Lists (once us) us
listed us = holds_once-once (λ u. InBag u us) us (λ u. member_decides u us)

pub one_count : (P : Type 0) (n m : ℕ) → n ≤ 1 → m ≤ 1 → (0 < n ↔ P) → (0 < m ↔ P) → n ≡ m
one_count P zero zero a b p q = refl
one_count P zero (suc m) a b p q = absurd (let h : 0 < zero = p.1 (q.0 (omega arith)) in omega arith)
one_count P (suc n) zero a b p q = absurd (let h : 0 < zero = q.1 (p.0 (omega arith)) in omega arith)
one_count P (suc n) (suc m) a b p q = omega arith

pub holds_once-same : (P : Row → Type 0) (ts ss : Bag) → HoldsOnce P ts → HoldsOnce P ss → SameBag ts ss
holds_once-same P ts ss h k = record { counts = λ t. one_count (P t) (count t ts) (count t ss) (h.once t) (k.once t) (h.rows t) (k.rows t) }
