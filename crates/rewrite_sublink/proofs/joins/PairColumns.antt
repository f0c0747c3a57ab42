-- What stands at the places of a side in the pairs of a join, in rows and in their kinds.
use Rattle.std.proofs.Common.{◌≡◌, ℕ, ◌+◌, List, [], ◌++◌, map, length, slice_index_or, refl, sym, ap, ◌∙◌, append_assoc, arith, length-append, ◌<◌}
use Rattle.std.proofs.lemmas.List.{map-append}
use Rattle.std.proofs.lemmas.List.Elements.{All-append}
use Rattle.std.proofs.lemmas.List.FromFn.{length-range_with_len}
use Rattle.std.specs.List.{range_with_len}
use Rattle.perm_values.specs.Rows.{PlacesWithin}
use Rattle.rewrite_core.proofs.Places.{at-between, within-range}
use Rattle.rewrite_core.proofs.RowColumns.{behind}
use Rattle.rewrite_sublink.specs.joins.ByParts.{columns_of_pair, places_in_pair, row_width}
use Rattle.rewrite_sublink.specs.declared.joins.sides.Side.{Side}

-- how many columns the parts of a pair have
pub record Widths {X : Type 0} (side : Side) (before own between added behind : List X) : Type 0 where
  pub before_is : length before ≡ side.before
  pub own_is : length own ≡ side.own
  pub between_is : length between ≡ side.between
  pub added_is : length added ≡ side.added
  pub behind_is : length behind ≡ side.behind

abbrev pub five : {X : Type 0} → (before own between added behind : List X) → List X
five before own between added behind = before ++ own ++ between ++ added ++ behind

abbrev pub pair_width : Side → ℕ
pair_width side = side.before + side.own + side.between + side.added + side.behind

nested : {X : Type 0} (a o b g c : List X) → five a o b g c ≡ a ++ (o ++ (b ++ (g ++ c)))
nested a o b g c = append_assoc (a ++ o ++ b) g c ∙ append_assoc (a ++ o) b (g ++ c) ∙ append_assoc a o (b ++ (g ++ c))

pub length-five : {X : Type 0} (side : Side) (a o b g c : List X) → Widths side a o b g c → length (five a o b g c) ≡ pair_width side
length-five side a o b g c w =
    length-append (a ++ o ++ b ++ g) c
    ∙ (λ i. (length-append (a ++ o ++ b) g
    ∙ (λ j. (length-append (a ++ o) b
    ∙ (λ k. (length-append a o ∙ (λ l. w.before_is l + w.own_is l)) k + w.between_is k)) j + w.added_is j)) i + w.behind_is i)

-- a row of the side, and behind it a pair whose own part may be another
module _ {X : Type 0} (other : X) (side : Side) (o g a p b h c : List X) (own_is : length o ≡ side.own) (added_is : length g ≡ side.added) (w : Widths side a p b h c) where
  abbrev whole : List X
  whole = (o ++ g) ++ five a p b h c

  abbrev at : List X → List ℕ → List X
  at items places = map (λ place. slice_index_or items place other) places

  row_is : length (o ++ g) ≡ row_width side
  row_is = length-append o g ∙ (λ i. own_is i + added_is i)

  before_end : length ((o ++ g) ++ a) ≡ row_width side + side.before
  before_end = length-append (o ++ g) a ∙ (λ i. row_is i + w.before_is i)

  own_end : length ((o ++ g) ++ a ++ p) ≡ row_width side + side.before + side.own
  own_end = length-append ((o ++ g) ++ a) p ∙ (λ i. before_end i + w.own_is i)

  between_end : length ((o ++ g) ++ a ++ p ++ b) ≡ row_width side + side.before + side.own + side.between
  between_end = length-append ((o ++ g) ++ a ++ p) b ∙ (λ i. own_end i + w.between_is i)

  added_end : length ((o ++ g) ++ a ++ p ++ b ++ h) ≡ row_width side + side.before + side.own + side.between + side.added
  added_end = length-append ((o ++ g) ++ a ++ p ++ b) h ∙ (λ i. between_end i + w.added_is i)

  -- the whole row, part by part
  from_before : whole ≡ (o ++ g) ++ (a ++ (p ++ (b ++ (h ++ c))))
  from_before = ap (λ pair. (o ++ g) ++ pair) (nested a p b h c)

  from_own : whole ≡ ((o ++ g) ++ a) ++ (p ++ (b ++ (h ++ c)))
  from_own = from_before ∙ sym (append_assoc (o ++ g) a (p ++ (b ++ (h ++ c))))

  from_between : whole ≡ ((o ++ g) ++ a ++ p) ++ (b ++ (h ++ c))
  from_between = from_own ∙ sym (append_assoc ((o ++ g) ++ a) p (b ++ (h ++ c)))

  from_added : whole ≡ ((o ++ g) ++ a ++ p ++ b) ++ (h ++ c)
  from_added = from_between ∙ sym (append_assoc ((o ++ g) ++ a ++ p) b (h ++ c))

  from_behind : whole ≡ ((o ++ g) ++ a ++ p ++ b ++ h) ++ c
  from_behind = from_added ∙ sym (append_assoc ((o ++ g) ++ a ++ p ++ b) h c)

  from_row : whole ≡ o ++ (g ++ five a p b h c)
  from_row = append_assoc o g (five a p b h c)

  pub row-columns : at whole (range_with_len 0 (row_width side)) ≡ o ++ g
  row-columns = at-between other [] (o ++ g) (five a p b h c) 0 (row_width side) refl row_is

  pub pair-columns : at whole (places_in_pair (row_width side) side) ≡ p ++ h
  pair-columns =
      let row = row_width side in
      map-append (λ place. slice_index_or whole place other) (range_with_len (row + side.before) side.own)
      (range_with_len (row + side.before + side.own + side.between) side.added)
      ∙ (λ i. (ap (λ items. at items (range_with_len (row + side.before) side.own)) from_own
      ∙ at-between other ((o ++ g) ++ a) p (b ++ (h ++ c)) (row + side.before) side.own before_end w.own_is) i
      ++ (ap (λ items. at items (range_with_len (row + side.before + side.own + side.between) side.added)) from_added
      ∙ at-between other ((o ++ g) ++ a ++ p ++ b) h c (row + side.before + side.own + side.between) side.added between_end w.added_is) i)

  before-columns : at whole (range_with_len (row_width side) side.before) ≡ a
  before-columns =
      ap (λ items. at items (range_with_len (row_width side) side.before)) from_before
      ∙ at-between other (o ++ g) a (p ++ (b ++ (h ++ c))) (row_width side) side.before row_is w.before_is

  own-columns : at whole (range_with_len 0 side.own) ≡ o
  own-columns =
      ap (λ items. at items (range_with_len 0 side.own)) from_row ∙ at-between other [] o (g ++ five a p b h c) 0 side.own refl own_is

  between-columns : at whole (range_with_len (row_width side + side.before + side.own) side.between) ≡ b
  between-columns =
      ap (λ items. at items (range_with_len (row_width side + side.before + side.own) side.between)) from_between
      ∙ at-between other ((o ++ g) ++ a ++ p) b (h ++ c) (row_width side + side.before + side.own) side.between own_end w.between_is

  added-columns : at whole (range_with_len side.own side.added) ≡ g
  added-columns =
      ap (λ items. at items (range_with_len side.own side.added)) from_row
      ∙ at-between other o g (five a p b h c) side.own side.added own_is added_is

  behind-columns : at whole (range_with_len (row_width side + side.before + side.own + side.between + side.added) side.behind) ≡ c
  behind-columns =
      let start = row_width side + side.before + side.own + side.between + side.added in
      ap (λ items. at items (range_with_len start side.behind)) from_behind
      ∙ ap (λ count. at (((o ++ g) ++ a ++ p ++ b ++ h) ++ c) (range_with_len start count)) (sym w.behind_is)
      ∙ behind other ((o ++ g) ++ a ++ p ++ b ++ h) c start added_end

  -- the side's part of the pair is taken from the row
  pub arranged : at whole (columns_of_pair side) ≡ five a o b g c
  arranged =
      let row = row_width side in
      let f = λ (place : ℕ). slice_index_or whole place other in
      let r1 = range_with_len row side.before in
      let r2 = range_with_len 0 side.own in
      let r3 = range_with_len (row + side.before + side.own) side.between in
      let r4 = range_with_len side.own side.added in
      let r5 = range_with_len (row + side.before + side.own + side.between + side.added) side.behind in
      map-append f (r1 ++ r2 ++ r3 ++ r4) r5
      ∙ (λ i. (map-append f (r1 ++ r2 ++ r3) r4
      ∙ (λ j. (map-append f (r1 ++ r2) r3
      ∙ (λ k. (map-append f r1 r2 ∙ (λ l. before-columns l ++ own-columns l)) k ++ between-columns k)) j ++ added-columns j)) i ++ behind-columns i)

-- ---- places

pub as_many : (side : Side) → length (range_with_len 0 (row_width side)) ≡ length (places_in_pair (row_width side) side)
as_many side =
    let row = row_width side in
    length-range_with_len 0 row
    ∙ (λ i. sym (length-range_with_len (row + side.before) side.own) i + sym (length-range_with_len (row + side.before + side.own + side.between) side.added) i)
    ∙ sym (length-append (range_with_len (row + side.before) side.own) (range_with_len (row + side.before + side.own + side.between) side.added))

module _ (side : Side) (width : ℕ) (wide : width ≡ row_width side + pair_width side) where
  pub row-within : PlacesWithin width (range_with_len 0 (row_width side))
  row-within = within-range width 0 (row_width side) (omega (arith, wide))

  pub part-within : PlacesWithin width (places_in_pair (row_width side) side)
  part-within =
      let row = row_width side in
      All-append (λ place. place < width) (range_with_len (row + side.before) side.own) (range_with_len (row + side.before + side.own + side.between) side.added)
      (within-range width (row + side.before) side.own (omega (arith, wide)))
      (within-range width (row + side.before + side.own + side.between) side.added (omega (arith, wide)))

  pub pair-within : PlacesWithin width (columns_of_pair side)
  pair-within =
      let row = row_width side in
      let P : ℕ → Type 0 = λ place. place < width in
      let r1 = range_with_len row side.before in
      let r2 = range_with_len 0 side.own in
      let r3 = range_with_len (row + side.before + side.own) side.between in
      let r4 = range_with_len side.own side.added in
      let r5 = range_with_len (row + side.before + side.own + side.between + side.added) side.behind in
      All-append P (r1 ++ r2 ++ r3 ++ r4) r5
      (All-append P (r1 ++ r2 ++ r3) r4
      (All-append P (r1 ++ r2) r3
      (All-append P r1 r2 (within-range width row side.before (omega (arith, wide))) (within-range width 0 side.own (omega (arith, wide))))
      (within-range width (row + side.before + side.own) side.between (omega (arith, wide))))
      (within-range width side.own side.added (omega (arith, wide))))
      (within-range width (row + side.before + side.own + side.between + side.added) side.behind (omega (arith, wide)))
