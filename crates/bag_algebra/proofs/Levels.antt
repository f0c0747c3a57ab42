-- How many outer rows are needed, and whether so many are enough.
use Rattle.std.proofs.Common.{◌≡◌, ℕ, suc, ◌+◌, ◌-◌, ◌<◌, ◌≤◌, max, Bool, true, ◌&&◌, List, length, get_or, drop, sym, refl, ap, ◌∙◌, arith}
use Rattle.std.specs.Prelude.{nat_eq, nat_le}
use Rattle.std.specs.List.{list_all}
use Rattle.std.proofs.Math.Dec.{leb-zero}
use Rattle.std.proofs.lemmas.Bool.Decides.{nat_tests}
use Rattle.std.proofs.lemmas.List.{at_drop_all}
use Rattle.bag_algebra.proofs.Rest.{from_here}
use Rattle.bag_algebra.proofs.Truths.{and_associates, and_true}

pub none-needed : (n : ℕ) → nat_le 0 n ≡ true
none-needed n = leb-zero n

pub greater-within : (a b n : ℕ) → nat_le (max a b) n ≡ (nat_le a n && nat_le b n)
greater-within a b n = grind (arith, nat_tests)

pub both-within : (r a b : ℕ) (x y : Bool) (n : ℕ) → r ≡ max a b → nat_le a n ≡ x → nat_le b n ≡ y → nat_le r n ≡ (x && y)
both-within r a b x y n e f g = ap (λ k. nat_le k n) e ∙ greater-within a b n ∙ (λ i. f i && g i)

-- one row more is seen inside
pub inside-within : (a n : ℕ) → nat_le (a - 1) n ≡ nat_le a (suc n)
inside-within a n = grind (arith, nat_tests)

-- what a loop has so far is enough, and so it is for the items that are left
abbrev pub SoFar : {X : Type 0} → (X → ℕ → Bool) → List X → ℕ → ℕ → Type 0
SoFar within xs i level = (n : ℕ) → (nat_le level n && list_all (λ x. within x n) (drop i xs)) ≡ list_all (λ x. within x n) xs

pub from_none : {X : Type 0} (within : X → ℕ → Bool) (xs : List X) → SoFar within xs 0 0
from_none within xs n = ap (λ b. b && list_all (λ x. within x n) xs) (none-needed n)

module _ {X : Type 0} (within : X → ℕ → Bool) (xs : List X) (i level : ℕ) (so_far : SoFar within xs i level) where
  pub one-more : (x : X) (more next : ℕ) → i < length xs → x ≡ get_or xs i x → ((n : ℕ) → nat_le more n ≡ within x n) → next ≡ max level more →
      SoFar within xs (i + 1) next
  one-more x more next in_range item needs e n =
      ap (λ b. b && list_all (λ y. within y n) (drop (i + 1) xs)) (both-within next level more _ _ n e refl (needs n))
      ∙ and_associates (nat_le level n) (within x n) (list_all (λ y. within y n) (drop (i + 1) xs))
      ∙ ap (λ b. nat_le level n && b) (sym (from_here (list_all (λ y. within y n)) xs i x in_range item))
      ∙ so_far n

  pub all-done : length xs ≤ i → (n : ℕ) → nat_le level n ≡ list_all (λ x. within x n) xs
  all-done h n =
      sym (and_true (nat_le level n))
      ∙ ap (λ b. nat_le level n && b) (sym (at_drop_all (list_all (λ y. within y n)) xs i h))
      ∙ so_far n

-- no outer row is enough exactly where none is needed
pub is_none_needed : (level : ℕ) → nat_eq level 0 ≡ nat_le level 0
is_none_needed level = grind (arith, nat_tests)
