-- What stands at places that follow one another.
use Rattle.std.proofs.Common.{◌≡◌, ℕ, zero, suc, inl, inr, ◌+◌, ◌-◌, ◌<◌, List, [], ◌∷◌, ◌++◌, map, length, slice_index_or, All, ◌≤◌, append_assoc, append-nil, length-append, refl, sym, ap, ◌∙◌, arith}
use Rattle.std.proofs.lemmas.List.{get_or-append-add, get_or_append_left, map-append}
use Rattle.std.proofs.lemmas.Bool.{cases_lt}
use Rattle.std.proofs.lemmas.List.Elements.{All-append}
use Rattle.std.specs.List.{range_with_len}
use Rattle.contribution.proofs.ColumnQueries.{all-nothing, all-first}
use Rattle.rewrite_core.specs.rewritings.KeptColumns.{kept_places}

module _ {X : Type 0} (d : X) where
  abbrev pub at : List X → List ℕ → List X
  at xs places = map (λ place. slice_index_or xs place d) places

  at-behind : (before xs : List X) (from count : ℕ) →
      at (before ++ xs) (range_with_len (length before + from) count) ≡ at xs (range_with_len from count)
  at-behind before xs from zero = refl
  at-behind before xs from (suc count) =
      let next : length before + from + 1 ≡ length before + (from + 1) = omega arith in
      λ i. get_or-append-add before xs from d i
      ∷ (ap (λ place. at (before ++ xs) (range_with_len place count)) next ∙ at-behind before xs (from + 1) count) i

  at-front : (xs more : List X) → at (xs ++ more) (range_with_len 0 (length xs)) ≡ xs
  at-front [] more = refl
  at-front (x ∷ xs) more = ap (λ ys. x ∷ ys) (at-behind (x ∷ []) (xs ++ more) 0 (length xs) ∙ at-front xs more)

  -- what stands between two parts
  pub at-between : (before xs more : List X) (from count : ℕ) → length before ≡ from → length xs ≡ count →
      at (before ++ (xs ++ more)) (range_with_len from count) ≡ xs
  at-between before xs more from count e f =
      let first : from ≡ length before + 0 = omega (arith, e) in
      (λ i. at (before ++ (xs ++ more)) (range_with_len (first i) (sym f i)))
      ∙ at-behind before (xs ++ more) 0 (length xs)
      ∙ at-front xs more

  -- the first part and the last, without the one between them
  pub at-kept : (first out last : List X) (kept left_out all : ℕ) → length first ≡ kept → length out ≡ left_out → length (first ++ out ++ last) ≡ all →
      at (first ++ out ++ last) (kept_places kept left_out all) ≡ first ++ last
  at-kept first out last kept left_out all e f g =
      let behind : length (first ++ out) ≡ kept + left_out = length-append first out ∙ (λ i. e i + f i) in
      let whole : length (first ++ out) + length last ≡ all = sym (length-append (first ++ out) last) ∙ g in
      let rest : length last ≡ all - (kept + left_out) = omega (arith, behind, whole) in
      map-append (λ place. slice_index_or (first ++ out ++ last) place d) (range_with_len 0 kept) (range_with_len (kept + left_out) (all - (kept + left_out)))
      ∙ (λ i.
      (ap (λ xs. at xs (range_with_len 0 kept)) (append_assoc first out last) ∙ at-between [] first (out ++ last) 0 kept refl e) i
      ++ (ap (λ xs. at (first ++ out ++ xs) (range_with_len (kept + left_out) (all - (kept + left_out)))) (sym (append-nil last))
      ∙ at-between (first ++ out) last [] (kept + left_out) (all - (kept + left_out)) behind rest) i)

  -- places counted from the end of a first part
  pub at-moved : (before xs : List X) (places : List ℕ) (by : ℕ) → length before ≡ by → at (before ++ xs) (map (λ place. by + place) places) ≡ at xs places
  at-moved before xs [] by e = refl
  at-moved before xs (place ∷ places) by e =
      λ i. (ap (λ n. slice_index_or (before ++ xs) (n + place) d) (sym e) ∙ get_or-append-add before xs place d) i ∷ at-moved before xs places by e i

  -- places of a first part
  pub at-within : (xs more : List X) (places : List ℕ) → All (λ place. place < length xs) places → at (xs ++ more) places ≡ at xs places
  at-within xs more [] within = refl
  at-within xs more (place ∷ places) within =
      λ i. get_or_append_left xs more d place (within zero 0 (omega arith)) i ∷ at-within xs more places (λ k d h. within (suc k) d (omega arith)) i

-- ---- places in range

pub within-range : (width from count : ℕ) → from + count ≤ width → All (λ place. place < width) (range_with_len from count)
within-range width from zero h = all-nothing (λ place. place < width)
within-range width from (suc count) h =
    all-first (λ place. place < width) from (range_with_len (from + 1) count) (omega (arith, h)) (within-range width (from + 1) count (omega (arith, h)))

nothing-within : (width from count : ℕ) → count ≡ 0 → All (λ place. place < width) (range_with_len from count)
nothing-within width from zero e = all-nothing (λ place. place < width)
nothing-within width from (suc count) e = absurd (omega (arith, e))

pub kept-within : (kept left_out all : ℕ) → kept ≤ all → All (λ place. place < all) (kept_places kept left_out all)
kept-within kept left_out all h =
    All-append (λ place. place < all) (range_with_len 0 kept) (range_with_len (kept + left_out) (all - (kept + left_out)))
    (within-range all 0 kept (omega (arith, h)))
    (elim (cases_lt all (kept + left_out)) [
      | inl beyond ↦ nothing-within all (kept + left_out) (all - (kept + left_out)) (omega (arith, beyond))
      | inr below ↦ within-range all (kept + left_out) (all - (kept + left_out)) (omega (arith, below))
    ])
