-- The look-up of a row by its key.
use Rattle.std.proofs.Common.{◌≡◌, ◌↔◌, ◌⊎◌, inl, inr, ℕ, zero, suc, Bool, true, false, cond, not, ◌&&◌, List, [], ◌∷◌, All, Contains, IsTrue, IsNone, IfSome, Option, Some, None, refl, sym, subst, arith}
use Rattle.std.specs.Bool.{Decides}
use Rattle.std.specs.Cmp.{booleans_Decides}
use Rattle.std.specs.List.{list_any}
use Rattle.std.proofs.lemmas.Bool.{or_right}
use Rattle.std.proofs.lemmas.Bool.Decides.{Decides-and, not_from_Decides}
use Rattle.std.proofs.lemmas.List.Elements.{All-nil, All-cons, All-head, All-tail}
use Rattle.std.proofs.lemmas.Slice.Eq.{bytes_eq-Decides}
use Rattle.null_logic.specs.Operators.{HasKey, has_key, keys_differ, row_spelling, row_of}
use Rattle.null_logic.specs.declared.operator.OpRow.{OpRow}

decides : (spelling : List ℕ) (prefix : Bool) (row : OpRow) → Decides (has_key spelling prefix row) (HasKey spelling prefix row)
decides spelling prefix row = Decides-and _ _ (bytes_eq-Decides (row_spelling row) spelling) (booleans_Decides row.prefix prefix)

-- ---- elements

onward : {X : Type 0} (y : X) (ys : List X) (x : X) → Contains ys x → Contains (y ∷ ys) x
onward y ys x (k, h, e) = (suc k, omega arith, e)

either : {X : Type 0} (y : X) (ys : List X) (x : X) → Contains (y ∷ ys) x → (y ≡ x) ⊎ Contains ys x
either y ys x (zero, h, e) = inl e
either y ys x (suc k, h, e) = inr (k, omega arith, e)

weaker : {X : Type 0} {P Q : X → Type 0} (o : Option X) → ((x : X) → P x → Q x) → IfSome o P → IfSome o Q
weaker None f h = tt
weaker (Some x) f h = f x h

list_any-found : {X : Type 0} (p : X → Bool) (xs : List X) (x : X) → Contains xs x → p x ≡ true → list_any p xs ≡ true
list_any-found p [] x (k, h, e) q = absurd (omega arith)
list_any-found p (y ∷ ys) x c q =
    elim (either y ys x c) [
      | inl e ↦ rw (e, q) refl
      | inr d ↦ or_right (p y) (list_any p ys) (list_any-found p ys x d q)
    ]

-- ---- what is found

module _ (spelling : List ℕ) (prefix : Bool) where
  abbrev Found : List OpRow → OpRow → Type 0
  Found rows row = HasKey spelling prefix row × Contains rows row

  found-first : (y : OpRow) (rows : List OpRow) (b : Bool) → has_key spelling prefix y ≡ b → IfSome (row_of rows spelling prefix) (Found rows) →
      IfSome (cond b (Some y) (row_of rows spelling prefix)) (Found (y ∷ rows))
  found-first y rows true e rest = ((decides spelling prefix y).0 e, (0, omega arith, refl))
  found-first y rows false e rest = weaker (row_of rows spelling prefix) (λ row h. (h.0, onward y rows row h.1)) rest

  pub row_of-found : (rows : List OpRow) → IfSome (row_of rows spelling prefix) (λ row. HasKey spelling prefix row × Contains rows row)
  row_of-found [] = tt
  row_of-found (y ∷ rows) = found-first y rows (has_key spelling prefix y) refl (row_of-found rows)

  abbrev Nowhere : List OpRow → Type 0
  Nowhere rows = All (λ row. ¬ (HasKey spelling prefix row)) rows

  none-first : (y : OpRow) (rows : List OpRow) (b : Bool) → has_key spelling prefix y ≡ b → (IsNone (row_of rows spelling prefix) → Nowhere rows) →
      IsNone (cond b (Some y) (row_of rows spelling prefix)) → Nowhere (y ∷ rows)
  none-first y rows true e rest none = cc
  none-first y rows false e rest none = All-cons (λ row. ¬ (HasKey spelling prefix row)) y rows (not_from_Decides _ (decides spelling prefix y) e) (rest none)

  row_of-none : (rows : List OpRow) → IsNone (row_of rows spelling prefix) → Nowhere rows
  row_of-none [] e = All-nil (λ row. ¬ (HasKey spelling prefix row))
  row_of-none (y ∷ rows) e = none-first y rows (has_key spelling prefix y) refl (row_of-none rows) e

  nowhere-first : (y : OpRow) (rows : List OpRow) (b : Bool) → has_key spelling prefix y ≡ b → ¬ (HasKey spelling prefix y) →
      IsNone (row_of rows spelling prefix) → IsNone (cond b (Some y) (row_of rows spelling prefix))
  nowhere-first y rows true e differs rest = absurd (differs ((decides spelling prefix y).0 e))
  nowhere-first y rows false e differs rest = rest

  none-row_of : (rows : List OpRow) → Nowhere rows → IsNone (row_of rows spelling prefix)
  none-row_of [] h = refl
  none-row_of (y ∷ rows) h =
      nowhere-first y rows (has_key spelling prefix y) refl (All-head (λ row. ¬ (HasKey spelling prefix row)) y rows h)
      (none-row_of rows (All-tail (λ row. ¬ (HasKey spelling prefix row)) y rows h))

  pub row_of-absent : (rows : List OpRow) → IsNone (row_of rows spelling prefix) ↔ All (λ row. ¬ (HasKey spelling prefix row)) rows
  row_of-absent rows = (row_of-none rows, none-row_of rows)

-- ---- distinct keys

own_key : (row : OpRow) → has_key (row_spelling row) row.prefix row ≡ true
own_key row = (decides (row_spelling row) row.prefix row).1 (refl, refl)

turned : (y row : OpRow) → has_key (row_spelling row) row.prefix y ≡ true → has_key (row_spelling y) y.prefix row ≡ true
turned y row e =
    let h : HasKey (row_spelling row) row.prefix y = (decides (row_spelling row) row.prefix y).0 e in
    (decides (row_spelling y) y.prefix row).1 (sym h.0, sym h.1)

none_later : (b c : Bool) → (not b && c) ≡ true → b ≡ true → ⊥
none_later true c e q = cc
none_later false c e q = cc

others_differ : (b c : Bool) → (not b && c) ≡ true → c ≡ true
others_differ true c e = cc
others_differ false c e = e

past-first : (y : OpRow) (rows : List OpRow) (row : OpRow) (b : Bool) → has_key (row_spelling row) row.prefix y ≡ b → ¬ (b ≡ true) →
    row_of rows (row_spelling row) row.prefix ≡ Some row → cond b (Some y) (row_of rows (row_spelling row) row.prefix) ≡ Some row
past-first y rows row true e differs rest = absurd (differs refl)
past-first y rows row false e differs rest = rest

pub row_of-own : (rows : List OpRow) → IsTrue (keys_differ rows) → (row : OpRow) → Contains rows row → row_of rows (row_spelling row) row.prefix ≡ Some row
row_of-own [] differ row (k, h, e) = absurd (omega arith)
row_of-own (y ∷ rows) differ row c =
    elim (either y rows row c) [
      | inl e ↦ subst (λ z. row_of (y ∷ rows) (row_spelling z) z.prefix ≡ Some z) e (rw (own_key y) refl)
      | inr d ↦
          past-first y rows row (has_key (row_spelling row) row.prefix y) refl
          (λ q. none_later (list_any (has_key (row_spelling y) y.prefix) rows) (keys_differ rows) differ
          (list_any-found (has_key (row_spelling y) y.prefix) rows row d (turned y row q)))
          (row_of-own rows (others_differ (list_any (has_key (row_spelling y) y.prefix) rows) (keys_differ rows) differ) row d)
    ]
