-- Each item once, where it comes first: one more item at the end.
use Rattle.std.proofs.Common.{◌≡◌, Bool, true, false, cond, not, ◌||◌, List, [], ◌∷◌, ◌++◌, filter, refl, ap, sym, ◌∙◌, append-nil}
use Rattle.std.specs.List.{list_any}
use Rattle.perm_values.specs.Rows.{same_row}
use Rattle.perm_values.specs.ValueLaws.{value_decides}
use Rattle.perm_values.specs.Values.{same_value}
use Rattle.perm_values.specs.declared.value.Value.{Value}
use Rattle.bag_algebra.specs.Bags.{Row, Bag, member, once}
use Rattle.bag_algebra.specs.Means.{once_each}

module _ {X : Type 0} (same : X → X → Bool) where
  abbrev once_by : List X → List X
  once_by [] = []
  once_by (x ∷ xs) = x ∷ filter (λ y. not (same x y)) (once_by xs)

  others_more : (x : X) (ys : List X) (y : X) →
      filter (λ z. not (same x z)) (ys ++ y ∷ []) ≡ filter (λ z. not (same x z)) ys ++ cond (not (same x y)) (y ∷ []) []
  others_more x [] y = by_test (not (same x y))
    where
      by_test : (b : Bool) → cond b (y ∷ []) [] ≡ [] ++ cond b (y ∷ []) []
      by_test true = refl
      by_test false = refl
  others_more x (z ∷ ys) y = by_test (not (same x z)) (others_more x ys y)
    where
      by_test : (b : Bool) → filter (λ z. not (same x z)) (ys ++ y ∷ []) ≡ filter (λ z. not (same x z)) ys ++ cond (not (same x y)) (y ∷ []) [] →
          cond b (z ∷ filter (λ z. not (same x z)) (ys ++ y ∷ [])) (filter (λ z. not (same x z)) (ys ++ y ∷ []))
          ≡ cond b (z ∷ filter (λ z. not (same x z)) ys) (filter (λ z. not (same x z)) ys) ++ cond (not (same x y)) (y ∷ []) []
      by_test true e = ap (λ l. z ∷ l) e
      by_test false e = e

  step : (x : X) (ys : List X) (y : X) (alike before : Bool) → same x y ≡ alike →
      x ∷ filter (λ z. not (same x z)) (cond before ys (ys ++ y ∷ []))
      ≡ cond (alike || before) (x ∷ filter (λ z. not (same x z)) ys) (x ∷ filter (λ z. not (same x z)) ys ++ y ∷ [])
  step x ys y true true e = refl
  step x ys y false true e = refl
  step x ys y true false e =
      ap (λ l. x ∷ l) (others_more x ys y ∙ ap (λ b. filter (λ z. not (same x z)) ys ++ cond (not b) (y ∷ []) []) e ∙ append-nil _)
  step x ys y false false e = ap (λ l. x ∷ l) (others_more x ys y ∙ ap (λ b. filter (λ z. not (same x z)) ys ++ cond (not b) (y ∷ []) []) e)

  once_by-more : (xs : List X) (y : X) → once_by (xs ++ y ∷ []) ≡ cond (list_any (λ x. same x y) xs) (once_by xs) (once_by xs ++ y ∷ [])
  once_by-more [] y = refl
  once_by-more (x ∷ xs) y =
      ap (λ l. x ∷ filter (λ z. not (same x z)) l) (once_by-more xs y) ∙ step x (once_by xs) y (same x y) (list_any (λ x. same x y) xs) refl

  -- what stands once stands there
  module _ (is : (x y : X) → same x y ≡ true → x ≡ y) where
    any-others : (x y : X) → same x y ≡ false → (zs : List X) → list_any (λ z. same z y) (filter (λ z. not (same x z)) zs) ≡ list_any (λ z. same z y) zs
    any-others x y e [] = refl
    any-others x y e (z ∷ zs) = by_test (same x z) refl (any-others x y e zs)
      where
        by_test : (b : Bool) → same x z ≡ b → list_any (λ z. same z y) (filter (λ z. not (same x z)) zs) ≡ list_any (λ z. same z y) zs →
            list_any (λ z. same z y) (cond (not b) (z ∷ filter (λ z. not (same x z)) zs) (filter (λ z. not (same x z)) zs)) ≡ (same z y || list_any (λ z. same z y) zs)
        by_test true f h = h ∙ ap (λ b. b || list_any (λ z. same z y) zs) (sym (ap (λ w. same w y) (sym (is x z f)) ∙ e))
        by_test false f h = ap (λ b. same z y || b) h

    any-once_by : (xs : List X) (y : X) → list_any (λ x. same x y) (once_by xs) ≡ list_any (λ x. same x y) xs
    any-once_by [] y = refl
    any-once_by (x ∷ xs) y = by_test (any-once_by xs y) (same x y) refl
      where
        by_test : list_any (λ x. same x y) (once_by xs) ≡ list_any (λ x. same x y) xs → (b : Bool) → same x y ≡ b → (b || list_any (λ z. same z y) (filter (λ z. not (same x z)) (once_by xs))) ≡ (b || list_any (λ x. same x y) xs)
        by_test h true e = refl
        by_test h false e = any-others x y e (once_by xs) ∙ h

-- one more row stays exactly where no earlier row is the same
pub once_more : (us : Bag) (u : Row) → once (us ++ u ∷ []) ≡ cond (member u us) (once us) (once us ++ u ∷ [])
once_more us u =
    rows-once (us ++ u ∷ []) ∙ once_by-more same_row us u ∙ (λ i. cond (member u us) (sym (rows-once us) i) (sym (rows-once us) i ++ u ∷ []))
  where
    rows-once : (vs : Bag) → once vs ≡ once_by same_row vs
    rows-once [] = refl
    rows-once (v ∷ vs) = ap (λ l. v ∷ filter (λ z. not (same_row v z)) l) (rows-once vs)

values-once : (vs : List Value) → once_each vs ≡ once_by same_value vs
values-once [] = refl
values-once (v ∷ vs) = ap (λ l. v ∷ filter (λ w. not (same_value v w)) l) (values-once vs)

-- and so does one more value
pub once_each_more : (vs : List Value) (v : Value) → once_each (vs ++ v ∷ []) ≡ cond (list_any (λ w. same_value w v) vs) (once_each vs) (once_each vs ++ v ∷ [])
once_each_more vs v =
    values-once (vs ++ v ∷ []) ∙ once_by-more same_value vs v
    ∙ (λ i. cond (list_any (λ w. same_value w v) vs) (sym (values-once vs) i) (sym (values-once vs) i ++ v ∷ []))

pub any-once_each : (vs : List Value) (v : Value) → list_any (λ w. same_value w v) (once_each vs) ≡ list_any (λ w. same_value w v) vs
any-once_each vs v = ap (list_any (λ w. same_value w v)) (values-once vs) ∙ any-once_by same_value (λ x y e. (value_decides x y).0 e) vs v
