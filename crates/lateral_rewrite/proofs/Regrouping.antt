-- What stands at the places of a dependent join's columns and of its provenance.
use Rattle.std.proofs.Common.{◌≡◌, ℕ, ◌+◌, ◌-◌, ◌≤◌, ◌<◌, List, [], ◌++◌, map, length, slice_index_or, append_assoc, append-nil, length-append, refl, sym, ap, ◌∙◌, arith}
use Rattle.std.proofs.lemmas.List.{map-append}
use Rattle.std.proofs.lemmas.List.Elements.{All-append}
use Rattle.std.specs.List.{range_with_len}
use Rattle.perm_values.specs.Rows.{PlacesWithin}
use Rattle.rewrite_core.proofs.Places.{at-between, within-range}
use Rattle.lateral_rewrite.specs.Applied.{regrouped}

module _ {X : Type 0} (d : X) (left added right more : List X) (a b c e : ℕ) (left_is : length left ≡ a) (left_row : length (left ++ added) ≡ b)
    (right_is : length right ≡ c) (right_row : length (right ++ more) ≡ e) where
  abbrev whole : List X
  whole = (left ++ added) ++ (right ++ more)

  abbrev of : List X → List ℕ → List X
  of items places = map (λ place. slice_index_or items place d) places

  both-of : (xs ys : List ℕ) → of whole (xs ++ ys) ≡ of whole xs ++ of whole ys
  both-of xs ys = map-append (λ place. slice_index_or whole place d) xs ys

  left_columns : of whole (range_with_len 0 a) ≡ left
  left_columns =
      ap (λ items. of items (range_with_len 0 a)) (append_assoc left added (right ++ more)) ∙ at-between d [] left (added ++ (right ++ more)) 0 a refl left_is

  added_columns : of whole (range_with_len a (b - a)) ≡ added
  added_columns =
      ap (λ items. of items (range_with_len a (b - a))) (append_assoc left added (right ++ more))
      ∙ at-between d left added (right ++ more) a (b - a) left_is (omega (arith, left_is, left_row, length-append left added))

  right_columns : of whole (range_with_len b c) ≡ right
  right_columns = at-between d (left ++ added) right more b c left_row right_is

  more_columns : of whole (range_with_len (b + c) (e - c)) ≡ more
  more_columns =
      ap (λ items. of items (range_with_len (b + c) (e - c)))
      (sym (append_assoc (left ++ added) right more) ∙ ap (λ items. ((left ++ added) ++ right) ++ items) (sym (append-nil more)))
      ∙ at-between d ((left ++ added) ++ right) more [] (b + c) (e - c) (omega (arith, left_row, right_is, length-append (left ++ added) right))
      (omega (arith, right_is, right_row, length-append right more))

  pub at-regrouped : of whole (regrouped a b c e) ≡ (left ++ right) ++ (added ++ more)
  at-regrouped =
      both-of (range_with_len 0 a ++ range_with_len b c) (range_with_len a (b - a) ++ range_with_len (b + c) (e - c))
      ∙ (λ i. (both-of (range_with_len 0 a) (range_with_len b c) ∙ (λ j. left_columns j ++ right_columns j)) i
      ++ (both-of (range_with_len a (b - a)) (range_with_len (b + c) (e - c)) ∙ (λ j. added_columns j ++ more_columns j)) i)

pub regrouped-within : (a b c e : ℕ) → a ≤ b → c ≤ e → PlacesWithin (b + e) (regrouped a b c e)
regrouped-within a b c e left_fits right_fits =
    All-append (λ place. place < (b + e)) (range_with_len 0 a ++ range_with_len b c) (range_with_len a (b - a) ++ range_with_len (b + c) (e - c))
    (All-append (λ place. place < (b + e)) (range_with_len 0 a) (range_with_len b c) (within-range (b + e) 0 a (omega (arith, left_fits)))
    (within-range (b + e) b c (omega (arith, right_fits))))
    (All-append (λ place. place < (b + e)) (range_with_len a (b - a)) (range_with_len (b + c) (e - c)) (within-range (b + e) a (b - a) (omega (arith, left_fits)))
    (within-range (b + e) (b + c) (e - c) (omega (arith, right_fits))))
