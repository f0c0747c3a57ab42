-- The first rows in order, kept as the rows come.
use Rattle.std.proofs.Common.{◌≡◌, ℕ, zero, suc, ◌+◌, ◌<◌, ◌≤◌, Bool, true, false, cond, List, [], ◌∷◌, ◌++◌, length, take, get_or, ◌⊎◌, inl, inr, IsSorted, Ordering, Less, Equal, Greater, is_lt, is_gt, is_ge, refl, sym, ap, ◌∙◌, arith}
use Rattle.std.proofs.lemmas.Bool.{cases_lt}
use Rattle.std.proofs.lemmas.List.{length_push, get_or_append_left, get_or_push, get_or-take, get_or_default, length-take, take-append-le}
use Rattle.bag_algebra.specs.Bags.{placed, sorted}
use Rattle.bag_algebra.proofs.SortedBags.{IsExactOrder, placed-turned, sorted-of_sorted}

module _ {X : Type 0} (cmp : X → X → Ordering) where
  shorter : (n : ℕ) (us : List X) → take n (take (suc n) us) ≡ take n us
  shorter zero us = refl
  shorter (suc n) [] = refl
  shorter (suc n) (u ∷ us) = ap (λ l. u ∷ l) (shorter n us)

  behind_first : (n : ℕ) (u : X) (us : List X) → take n (u ∷ take n us) ≡ take n (u ∷ us)
  behind_first zero u us = refl
  behind_first (suc n) u us = ap (λ l. u ∷ l) (shorter n us)

  -- what isn't among the first ones of a list isn't among them with one more item either
  take-placed : (n : ℕ) (x : X) (us : List X) → take n (placed cmp x (take n us)) ≡ take n (placed cmp x us)
  take-placed zero x us = refl
  take-placed (suc n) x [] = refl
  take-placed (suc n) x (u ∷ us) = by (is_gt (cmp x u)) (take-placed n x us) where
    by : (b : Bool) → take n (placed cmp x (take n us)) ≡ take n (placed cmp x us) → take (suc n) (cond b (u ∷ placed cmp x (take n us)) (x ∷ u ∷ take n us)) ≡ take (suc n) (cond b (u ∷ placed cmp x us) (x ∷ u ∷ us))
    by true e = ap (λ l. u ∷ l) e
    by false e = ap (λ l. x ∷ l) (behind_first n u us)

  -- a list in order with one more item behind it that isn't less than its last
  sorted-with : (us : List X) (x : X) (i : ℕ) → IsSorted cmp us → i + 1 ≡ length us → is_lt (cmp x (get_or us i x)) ≡ false → IsSorted cmp (us ++ x ∷ [])
  sorted-with us x i rises last more k d low high = by (cases_lt (k + 1) (length us)) where
    inside : (j : ℕ) → j < length us → get_or (us ++ x ∷ []) j d ≡ get_or us j d
    inside j = get_or_append_left us (x ∷ []) d j

    by : ((k + 1 < length us) ⊎ (length us ≤ k + 1)) → is_lt (cmp (get_or (us ++ x ∷ []) (k + 1) d) (get_or (us ++ x ∷ []) k d)) ≡ false
    by (inl below) = rw (inside (k + 1) below, inside k (omega arith)) (rises k d low below)
    by (inr past) =
        let here : length us ≡ k + 1 = omega (arith, length_push us x) in
        let at : i ≡ k = omega arith in
        rw (get_or_push us x d (k + 1) here, inside k (omega arith), get_or_default us k d x (omega arith), sym at) more

module _ {X : Type 0} (cmp : X → X → Ordering) (o : IsExactOrder cmp) where
  sorted-appended : (us : List X) (x : X) → sorted cmp (us ++ x ∷ []) ≡ placed cmp x (sorted cmp us)
  sorted-appended [] x = refl
  sorted-appended (u ∷ us) x = ap (placed cmp u) (sorted-appended us x) ∙ placed-turned cmp o u x (sorted cmp us)

  -- of the first ones kept so far and one more, the first ones are those of all
  pub kept_more : (n : ℕ) (seen kept : List X) (x : X) → kept ≡ take n (sorted cmp seen) → IsSorted cmp kept →
      take n (sorted cmp (kept ++ x ∷ [])) ≡ take n (sorted cmp (seen ++ x ∷ []))
  kept_more n seen kept x are rises =
      ap (take n) (sorted-appended kept x ∙ ap (placed cmp x) (sorted-of_sorted cmp o kept rises ∙ are))
      ∙ take-placed cmp n x (sorted cmp seen) ∙ ap (take n) (sym (sorted-appended seen x))

  -- after as many first ones, one more that isn't less than the last changes nothing
  pub kept_same : (n : ℕ) (kept : List X) (x : X) (i : ℕ) → IsSorted cmp kept → i + 1 ≡ length kept → n ≤ length kept →
      is_lt (cmp x (get_or kept i x)) ≡ false → take n (sorted cmp (kept ++ x ∷ [])) ≡ take n kept
  kept_same n kept x i rises last full more =
      ap (take n) (sorted-of_sorted cmp o (kept ++ x ∷ []) (sorted-with cmp kept x i rises last more)) ∙ take-append-le n kept (x ∷ []) full

pub take-again : {X : Type 0} (n : ℕ) (us : List X) → take n (take n us) ≡ take n us
take-again zero us = refl
take-again (suc n) [] = refl
take-again (suc n) (u ∷ us) = ap (λ l. u ∷ l) (take-again n us)

-- the first of a list in order are in order
pub IsSorted-take : {X : Type 0} (cmp : X → X → Ordering) (n : ℕ) (us : List X) → IsSorted cmp us → IsSorted cmp (take n us)
IsSorted-take cmp n us rises k d low high =
    let long = length-take n us in
    let shown : (j : ℕ) → j < length (take n us) → get_or (take n us) j d ≡ get_or us j d = λ j inside. get_or-take n us j d (omega (arith, long, inside)) in
    rw (shown (k + 1) high, shown k (omega arith)) (rises k d low (omega (arith, long)))

pub IsSorted-nil : {X : Type 0} (cmp : X → X → Ordering) → IsSorted cmp []
IsSorted-nil cmp k d low high = absurd (omega arith)

pub not_less : (a : Ordering) → is_ge a ≡ true → is_lt a ≡ false
not_less Less e = sym e
not_less Equal e = refl
not_less Greater e = refl
