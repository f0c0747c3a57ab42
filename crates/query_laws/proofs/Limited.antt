-- The law of Limit.
use Rattle.std.proofs.Common.{◌≡◌, ℕ, zero, suc, Bool, true, false, cond, List, [], ◌∷◌, take, IsSorted, Ordering, Less, Equal, Greater, is_lt, is_gt, refl, sym, ap, ◌∙◌, arith, true≢false, suc-add}
use Rattle.std.specs.Cmp.{IsTotalOrder}
use Rattle.std.specs.Ordering.{ordering_reverse}
use Rattle.perm_values.specs.RowLaws.{printed_total}
use Rattle.perm_values.specs.Rows.{printed_cmp}
use Rattle.perm_values.specs.declared.key.Key.{Key}
use Rattle.bag_algebra.proofs.SortedBags.{printed_exact, sorted-same_bag, sorted-of_sorted, same_bag-sorted}
use Rattle.bag_algebra.specs.Bags.{Bag, SameBag, placed, sorted}
use Rattle.bag_algebra.specs.Outcome.{Outcome, mapped}
use Rattle.query_laws.specs.Nodes.{IsLimited}
use Rattle.query_laws.proofs.Outcomes.{mapped-passes}

-- ---- a list in order, from its front on

module _ {X : Type 0} (cmp : X → X → Ordering) where
  -- x may stand in front
  abbrev pub leads : X → List X → Type 0
  leads x [] = Unit {0}
  leads x (y ∷ ys) = is_lt (cmp y x) ≡ false

  abbrev pub rises : List X → Type 0
  rises [] = Unit {0}
  rises (x ∷ xs) = leads x xs × rises xs

  sorted-from_rises : (xs : List X) → rises xs → IsSorted cmp xs
  sorted-from_rises [] r k d low high = absurd (omega arith)
  sorted-from_rises (x ∷ []) r k d low high = absurd (omega arith)
  sorted-from_rises (x ∷ y ∷ ys) r zero d low high = r.0
  sorted-from_rises (x ∷ y ∷ ys) r (suc k) d low high =
      rw suc-add (sorted-from_rises (y ∷ ys) r.1 k d (omega arith) (omega arith))

  module _ (total : IsTotalOrder cmp) where
    -- what isn't above may stand in front, and what is above may stand behind
    not_less : (x y : X) (a : Ordering) → cmp x y ≡ a → is_gt a ≡ false → is_lt (cmp y x) ≡ false
    not_less x y Less e g = ap is_lt (total.antisymm y x ∙ ap ordering_reverse e)
    not_less x y Equal e g = ap is_lt (total.antisymm y x ∙ ap ordering_reverse e)
    not_less x y Greater e g = absurd (true≢false g)

    above : (x y : X) (a : Ordering) → cmp x y ≡ a → is_gt a ≡ true → is_lt (cmp x y) ≡ false
    above x y Less e g = absurd (true≢false (sym g))
    above x y Equal e g = absurd (true≢false (sym g))
    above x y Greater e g = ap is_lt e

    leads-after : (w x : X) (xs : List X) → leads w xs → is_lt (cmp x w) ≡ false → leads w (placed cmp x xs)
    leads-after w x [] l e = e
    leads-after w x (y ∷ ys) l e = by (is_gt (cmp x y)) where
      by : (b : Bool) → leads w (cond b (y ∷ placed cmp x ys) (x ∷ y ∷ ys))
      by true = l
      by false = e

    rises-step : (x y : X) (ys : List X) (b : Bool) → is_gt (cmp x y) ≡ b → leads y ys → rises ys → rises (placed cmp x ys) →
        rises (cond b (y ∷ placed cmp x ys) (x ∷ y ∷ ys))
    rises-step x y ys true e l r p = (leads-after y x ys l (above x y (cmp x y) refl e), p)
    rises-step x y ys false e l r p = (not_less x y (cmp x y) refl e, (l, r))

    rises-placed : (x : X) (xs : List X) → rises xs → rises (placed cmp x xs)
    rises-placed x [] r = (tt, tt)
    rises-placed x (y ∷ ys) r = rises-step x y ys (is_gt (cmp x y)) refl r.0 r.1 (rises-placed x ys r.1)

    pub rises-sorted : (xs : List X) → rises (sorted cmp xs)
    rises-sorted [] = tt
    rises-sorted (x ∷ xs) = rises-placed x (sorted cmp xs) (rises-sorted xs)

-- sorting puts in order
pub sorted-is_sorted : {X : Type 0} (cmp : X → X → Ordering) → IsTotalOrder cmp → (xs : List X) → IsSorted cmp (sorted cmp xs)
sorted-is_sorted cmp total xs = sorted-from_rises cmp (sorted cmp xs) (rises-sorted cmp total xs)

-- the sorted list of one bag is one
pub ordered_once : (keys : List Key) (us first second : Bag) → SameBag us first → SameBag us second → IsSorted (printed_cmp keys) first →
    IsSorted (printed_cmp keys) second → first ≡ second
ordered_once keys us first second s r up rise =
    let cmp = printed_cmp keys in
    let o = printed_exact keys in
    sym (sorted-of_sorted cmp o first up) ∙ sym (sorted-same_bag cmp o us first s) ∙ sorted-same_bag cmp o us second r ∙ sorted-of_sorted cmp o second rise

pub limited : (keys : List Key) (most : ℕ) (input : Outcome Bag) → IsLimited keys most input (mapped (λ bag. take most (sorted (printed_cmp keys) bag)) input)
limited keys most input = record {
  bad = mapped-passes input (λ bag. take most (sorted (printed_cmp keys) bag));
  first = λ us e. (
    sorted (printed_cmp keys) us,
    same_bag-sorted (printed_cmp keys) us,
    sorted-is_sorted (printed_cmp keys) (printed_total keys) us,
    ap (mapped (λ bag. take most (sorted (printed_cmp keys) bag))) e,
  );
}
