-- The sorted list of a bag is one, for an order that ties only equal rows.
use Rattle.std.proofs.Common.{◌≡◌, suc, Bool, true, false, cond, List, [], ◌∷◌, IsPermutation, IsSorted, Ordering, Less, Equal, Greater, is_lt, is_gt, refl, sym, ap, ◌∙◌, subst, arith, true≢false, suc-add}
use Rattle.std.specs.Cmp.{IsTotalOrder, upto}
use Rattle.std.specs.Ordering.{ordering_reverse}
use Rattle.perm_values.specs.RowLaws.{printed_total, printed_ties}
use Rattle.perm_values.specs.Rows.{printed_cmp}
use Rattle.perm_values.specs.declared.key.Key.{Key}
use Rattle.bag_algebra.specs.Bags.{Row, Bag, SameBag, placed, sorted}
use Rattle.bag_algebra.proofs.BagLaws.{Permuted, nothing, onward, turn, joined, permuted-from_same_bag, same_bag-from_permutation, permuted-refl, same_bag-from_permuted}

-- an order that ties only what is equal
pub record IsExactOrder {X : Type 0} (cmp : X → X → Ordering) : Type 0 where
  pub total : IsTotalOrder cmp
  pub ties : (x y : X) → cmp x y ≡ Equal → x ≡ y

pub printed_exact : (keys : List Key) → IsExactOrder (printed_cmp keys)
printed_exact keys = record { total = printed_total keys; ties = printed_ties keys }

module _ {X : Type 0} (cmp : X → X → Ordering) (o : IsExactOrder cmp) where
  -- two items in front of others, in their order
  two_placed : (x y : X) (us : List X) (a b : Ordering) → cmp x y ≡ a → cmp y x ≡ b →
      cond (is_gt a) (y ∷ x ∷ us) (x ∷ y ∷ us) ≡ cond (is_gt b) (x ∷ y ∷ us) (y ∷ x ∷ us)
  two_placed x y us Less Less p q = absurd (true≢false (ap is_lt (sym p ∙ o.total.antisymm x y ∙ ap ordering_reverse q)))
  two_placed x y us Less Equal p q = absurd (true≢false (ap is_lt (sym p ∙ o.total.antisymm x y ∙ ap ordering_reverse q)))
  two_placed x y us Less Greater p q = refl
  two_placed x y us Equal b p q =
      let e : x ≡ y = o.ties x y p in
      subst (λ z. x ∷ z ∷ us ≡ cond (is_gt b) (x ∷ z ∷ us) (z ∷ x ∷ us)) e (alike (is_gt b) (x ∷ x ∷ us))
    where
      alike : (g : Bool) (l : List X) → l ≡ cond g l l
      alike true l = refl
      alike false l = refl
  two_placed x y us Greater Less p q = refl
  two_placed x y us Greater Equal p q = absurd (true≢false (ap is_gt (sym p ∙ o.total.antisymm x y ∙ ap ordering_reverse q)))
  two_placed x y us Greater Greater p q = absurd (true≢false (ap is_gt (sym p ∙ o.total.antisymm x y ∙ ap ordering_reverse q)))

  -- what is above u is above what isn't above u
  above : (x y u : X) (g : Bool) → is_gt (cmp x y) ≡ g → is_gt (cmp x u) ≡ true → is_gt (cmp y u) ≡ false → g ≡ true
  above x y u true e p q = refl
  above x y u false e p q = absurd (true≢false (sym p ∙ upto o.total x y u e q))

  turned_step : (x y u : X) (us : List X) (g h : Bool) → is_gt (cmp x u) ≡ g → is_gt (cmp y u) ≡ h →
      placed cmp x (placed cmp y us) ≡ placed cmp y (placed cmp x us) →
      placed cmp x (cond h (u ∷ placed cmp y us) (y ∷ u ∷ us)) ≡ placed cmp y (cond g (u ∷ placed cmp x us) (x ∷ u ∷ us))
  turned_step x y u us true true p q e = rw (p, q) (ap (λ l. u ∷ l) e)
  turned_step x y u us false false p q e = rw (p, q) (two_placed x y (u ∷ us) (cmp x y) (cmp y x) refl refl)
  turned_step x y u us true false p q e = rw (above x y u (is_gt (cmp x y)) refl p q, p, q) refl
  turned_step x y u us false true p q e = rw (above y x u (is_gt (cmp y x)) refl q p, p, q) refl

  pub placed-turned : (x y : X) (us : List X) → placed cmp x (placed cmp y us) ≡ placed cmp y (placed cmp x us)
  placed-turned x y [] = two_placed x y [] (cmp x y) (cmp y x) refl refl
  placed-turned x y (u ∷ us) = turned_step x y u us (is_gt (cmp x u)) (is_gt (cmp y u)) refl refl (placed-turned x y us)

  pub sorted-permuted : {us vs : List X} → Permuted us vs → sorted cmp us ≡ sorted cmp vs
  sorted-permuted nothing = refl
  sorted-permuted (onward u p) = ap (placed cmp u) (sorted-permuted p)
  sorted-permuted (turn u v us) = placed-turned u v (sorted cmp us)
  sorted-permuted (joined p q) = sorted-permuted p ∙ sorted-permuted q

  -- what doesn't fall stays where it is
  not_above : (x y : X) (a : Ordering) → cmp y x ≡ a → is_lt a ≡ false → is_gt (cmp x y) ≡ false
  not_above x y Less e f = absurd (true≢false f)
  not_above x y Equal e f = ap is_gt (o.total.antisymm x y ∙ ap ordering_reverse e)
  not_above x y Greater e f = ap is_gt (o.total.antisymm x y ∙ ap ordering_reverse e)

  risen_tail : (x : X) (us : List X) → IsSorted cmp (x ∷ us) → IsSorted cmp us
  risen_tail x us s k d low high = rw suc-add at (s (suc k) d (omega arith) (omega arith))

  risen_head : (x : X) (us : List X) → IsSorted cmp (x ∷ us) → placed cmp x us ≡ x ∷ us
  risen_head x [] s = refl
  risen_head x (u ∷ us) s = rw (not_above x u (cmp u x) refl (s 0 x (omega arith) (omega arith))) refl

  -- a list in order, as a sort ensures it
  pub sorted-of_sorted : (us : List X) → IsSorted cmp us → sorted cmp us ≡ us
  sorted-of_sorted [] s = refl
  sorted-of_sorted (u ∷ us) s = ap (placed cmp u) (sorted-of_sorted us (risen_tail u us s)) ∙ risen_head u us s

pub sorted-same_bag : (cmp : Row → Row → Ordering) → IsExactOrder cmp → (us vs : Bag) → SameBag us vs → sorted cmp us ≡ sorted cmp vs
sorted-same_bag cmp o us vs s = sorted-permuted cmp o (permuted-from_same_bag us vs s)

pub sorted_unique : (cmp : Row → Row → Ordering) → IsTotalOrder cmp → ((u v : Row) → cmp u v ≡ Equal → u ≡ v) →
    (us vs : Bag) → SameBag us vs → sorted cmp us ≡ sorted cmp vs
sorted_unique cmp total ties us vs s = sorted-same_bag cmp (record { total = total; ties = ties }) us vs s

-- a sorted permutation is the sorted list, as a sort makes it
pub sorted_unique-of_sort : (cmp : Row → Row → Ordering) → IsTotalOrder cmp → ((u v : Row) → cmp u v ≡ Equal → u ≡ v) →
    (us vs : Bag) → IsPermutation us vs → IsSorted cmp vs → vs ≡ sorted cmp us
sorted_unique-of_sort cmp total ties us vs p s =
    sym (sorted-of_sorted cmp (record { total = total; ties = ties }) vs s)
    ∙ sym (sorted_unique cmp total ties us vs (same_bag-from_permutation us vs p))

pub printed_unique : (keys : List Key) (us vs : Bag) → SameBag us vs → sorted (printed_cmp keys) us ≡ sorted (printed_cmp keys) vs
printed_unique keys us vs s = sorted-same_bag (printed_cmp keys) (printed_exact keys) us vs s

pub printed_unique-of_sort : (keys : List Key) (us vs : Bag) → IsPermutation us vs → IsSorted (printed_cmp keys) vs → vs ≡ sorted (printed_cmp keys) us
printed_unique-of_sort keys us vs p s = sorted_unique-of_sort (printed_cmp keys) (printed_total keys) (printed_ties keys) us vs p s

-- sorting only moves rows
by_test : {X : Type 0} (b : Bool) (u v : X) (us vs : List X) → Permuted (u ∷ us) vs → Permuted (u ∷ v ∷ us) (cond b (v ∷ vs) (u ∷ v ∷ us))
by_test true u v us vs p = joined (turn u v us) (onward v p)
by_test false u v us vs p = permuted-refl (u ∷ v ∷ us)

permuted-placed : {X : Type 0} (cmp : X → X → Ordering) (u : X) (us : List X) → Permuted (u ∷ us) (placed cmp u us)
permuted-placed cmp u [] = permuted-refl (u ∷ [])
permuted-placed cmp u (v ∷ us) = by_test (is_gt (cmp u v)) u v us (placed cmp u us) (permuted-placed cmp u us)

pub permuted-sorted : {X : Type 0} (cmp : X → X → Ordering) (us : List X) → Permuted us (sorted cmp us)
permuted-sorted cmp [] = nothing
permuted-sorted cmp (u ∷ us) = joined (onward u (permuted-sorted cmp us)) (permuted-placed cmp u (sorted cmp us))

pub same_bag-sorted : (cmp : Row → Row → Ordering) (us : Bag) → SameBag us (sorted cmp us)
same_bag-sorted cmp us = same_bag-from_permuted (permuted-sorted cmp us)
