-- The keys of a LIMIT: all columns decide which rows stay.
use Rattle.std.specs.Prelude.{ℕ, Bool, false, cond, ◌==◌, List, [], ◌∷◌, ◌++◌}
use Rattle.std.specs.List.{flat_map, list_any, range_with_len}
use Rattle.perm_values.specs.declared.key.Key.{Key}

-- ascending by the column at a place
abbrev pub at_place : ℕ → Key
at_place place = record { place = place; descending = false }

-- whether one of the keys is the column at a place
abbrev pub is_key : List Key → ℕ → Bool
is_key keys place = list_any (λ (key : Key). key.place == place) keys

-- a column by which the keys sort already decides nothing behind them
abbrev pub unless_key : List Key → ℕ → List Key
unless_key keys place = cond (is_key keys place) [] (at_place place ∷ [])

-- the columns at these places that are no key
abbrev pub other_keys : List Key → List ℕ → List Key
other_keys keys places = flat_map (unless_key keys) places

-- behind the keys all other columns stand, of so many, so that the front rows are the same wherever the text runs
abbrev pub all_keys : ℕ → List Key → List Key
all_keys count keys = keys ++ other_keys keys (range_with_len 0 count)
