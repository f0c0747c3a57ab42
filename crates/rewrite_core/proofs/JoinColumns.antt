-- What stands at the places of a join's columns and of its provenance, in pairs of rows and in their kinds.
use Rattle.std.proofs.Common.{◌≡◌, ℕ, ◌+◌, ◌-◌, ◌≤◌, List, [], ◌++◌, map, length, slice_index_or, refl, sym, ap, ◌∙◌, append_assoc, arith, length-append, ◌<◌}
use Rattle.std.proofs.lemmas.List.{map-append}
use Rattle.std.proofs.lemmas.List.Elements.{All-append}
use Rattle.std.specs.List.{range_with_len}
use Rattle.perm_values.specs.Rows.{PlacesWithin}
use Rattle.rewrite_core.proofs.Places.{at-between, within-range}
use Rattle.rewrite_core.proofs.RowColumns.{behind}
use Rattle.rewrite_core.specs.JoinColumns.{own_places, added_places}

-- ---- consecutive groups

module _ {X : Type 0} (other : X) (left left_added right right_added : List X) (a b c d : ℕ) (left_is : length left ≡ a) (left_row : length (left ++ left_added) ≡ b)
    (right_is : length right ≡ c) (right_row : length (right ++ right_added) ≡ d) where
  abbrev at : List ℕ → List X
  at places = map (λ place. slice_index_or ((left ++ left_added) ++ (right ++ right_added)) place other) places

  abbrev of : List X → List ℕ → List X
  of items places = map (λ place. slice_index_or items place other) places

  left_columns : at (range_with_len 0 a) ≡ left
  left_columns =
      ap (λ items. of items (range_with_len 0 a)) (append_assoc left left_added (right ++ right_added))
      ∙ at-between other [] left (left_added ++ (right ++ right_added)) 0 a refl left_is

  left_added_columns : at (range_with_len a (b - a)) ≡ left_added
  left_added_columns =
      let count : length left_added ≡ b - a = omega (arith, length-append left left_added) in
      ap (λ items. of items (range_with_len a (b - a))) (append_assoc left left_added (right ++ right_added))
      ∙ at-between other left left_added (right ++ right_added) a (b - a) left_is count

  right_columns : at (range_with_len b c) ≡ right
  right_columns = at-between other (left ++ left_added) right right_added b c left_row right_is

  right_added_columns : at (range_with_len (b + c) (d - c)) ≡ right_added
  right_added_columns =
      let count : d - c ≡ length right_added = omega (arith, length-append right right_added) in
      let start : length ((left ++ left_added) ++ right) ≡ b + c = omega (arith, length-append (left ++ left_added) right) in
      ap (λ items. of items (range_with_len (b + c) (d - c))) (sym (append_assoc (left ++ left_added) right right_added))
      ∙ ap (λ n. of (((left ++ left_added) ++ right) ++ right_added) (range_with_len (b + c) n)) count
      ∙ behind other ((left ++ left_added) ++ right) right_added (b + c) start

  pub own-columns : at (own_places a b c) ≡ left ++ right
  own-columns =
      map-append (λ place. slice_index_or ((left ++ left_added) ++ (right ++ right_added)) place other) (range_with_len 0 a) (range_with_len b c)
      ∙ (λ i. left_columns i ++ right_columns i)

  added-columns : at (added_places a b c d) ≡ left_added ++ right_added
  added-columns =
      map-append (λ place. slice_index_or ((left ++ left_added) ++ (right ++ right_added)) place other) (range_with_len a (b - a)) (range_with_len (b + c) (d - c))
      ∙ (λ i. left_added_columns i ++ right_added_columns i)

  pub all-columns : at (own_places a b c ++ added_places a b c d) ≡ (left ++ right) ++ (left_added ++ right_added)
  all-columns =
      map-append (λ place. slice_index_or ((left ++ left_added) ++ (right ++ right_added)) place other) (own_places a b c) (added_places a b c d)
      ∙ (λ i. own-columns i ++ added-columns i)

module _ (a b c d : ℕ) (left_fits : a ≤ b) (right_fits : c ≤ d) where
  pub own-within : PlacesWithin (b + d) (own_places a b c)
  own-within =
      All-append (λ place. place < (b + d)) (range_with_len 0 a) (range_with_len b c) (within-range (b + d) 0 a (omega arith))
      (within-range (b + d) b c (omega arith))

  pub all-within : PlacesWithin (b + d) (own_places a b c ++ added_places a b c d)
  all-within =
      All-append (λ place. place < (b + d)) (own_places a b c) (added_places a b c d) own-within
      (All-append (λ place. place < (b + d)) (range_with_len a (b - a)) (range_with_len (b + c) (d - c)) (within-range (b + d) a (b - a) (omega arith))
      (within-range (b + d) (b + c) (d - c) (omega arith)))
