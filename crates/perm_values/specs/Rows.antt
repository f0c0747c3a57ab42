-- Rows: lists of values, with the order by which answers are printed.
use Rattle.std.specs.Prelude.{ℕ, Bool, true, false, ◌&&◌, ◌<◌, cond, List, [], ◌∷◌, map, slice_index_or, All}
use Rattle.std.specs.Cmp.Lexicographic.{pointwise, slice_cmp}
use Rattle.std.specs.List.{list_all}
use Rattle.std.specs.Ordering.{ordering_then, ordering_reverse}
use Rattle.std.specs.declared.cmp.Ordering.{Ordering}
use Rattle.perm_values.specs.Values.{same_value, value_cmp, fits}
use Rattle.perm_values.specs.declared.key.Key.{Key}
use Rattle.perm_values.specs.declared.kind.Kind.{Kind}
use Rattle.perm_values.specs.declared.value.Value.{Value}
use Rattle.perm_values.specs.declared.value.Value.TheVariants.{Null}

-- one width, and the same values place by place
abbrev pub same_row : List Value → List Value → Bool
same_row = pointwise same_value

-- from left to right; a proper prefix comes first
abbrev pub row_cmp : List Value → List Value → Ordering
row_cmp = slice_cmp value_cmp

-- the value at a place, NULL out of range
abbrev pub value_at : List Value → ℕ → Value
value_at row place = slice_index_or row place Null

-- the values at the places, in their order
abbrev pub picked : List ℕ → List Value → List Value
picked places row = map (value_at row) places

-- the order that one key asks for
abbrev pub key_cmp : Key → List Value → List Value → Ordering
key_cmp key u v = cond key.descending
    (ordering_reverse (value_cmp (value_at u key.place) (value_at v key.place)))
    (value_cmp (value_at u key.place) (value_at v key.place))

-- the printed order: the keys one after another, then all columns ascending (ISO/IEC 9075-2, 'ORDER BY';
-- that all columns decide between ties is this project's own)
abbrev pub printed_cmp : List Key → List Value → List Value → Ordering
printed_cmp [] u v = row_cmp u v
printed_cmp (key ∷ keys) u v = ordering_then (key_cmp key u v) (printed_cmp keys u v)

-- each value fits the kind at its place, and there are as many
abbrev pub row_fits : List Value → List Kind → Bool
row_fits [] [] = true
row_fits [] (k ∷ ks) = false
row_fits (v ∷ vs) [] = false
row_fits (v ∷ vs) (k ∷ ks) = fits v k && row_fits vs ks

-- each row has exactly these kinds
abbrev pub bag_fits : List (List Value) → List Kind → Bool
bag_fits rows kinds = list_all (λ row. row_fits row kinds) rows

-- each place is one of the row's
abbrev pub PlacesWithin : ℕ → List ℕ → Type 0
PlacesWithin width places = All (λ place. place < width) places

abbrev pub KeysWithin : ℕ → List Key → Type 0
KeysWithin width keys = All (λ (key : Key). key.place < width) keys
