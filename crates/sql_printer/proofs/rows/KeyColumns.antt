-- The keys by which a LIMIT takes its rows are columns of the query.
use Rattle.std.proofs.Common.{ℕ, zero, suc, ◌+◌, ◌<◌, ◌≤◌, Bool, true, false, cond, List, [], ◌∷◌, ◌++◌, arith}
use Rattle.std.proofs.lemmas.List.Elements.{All-append, All-cons, All-nil}
use Rattle.std.specs.List.{range_with_len}
use Rattle.perm_values.specs.Rows.{KeysWithin}
use Rattle.perm_values.specs.declared.key.Key.{Key}
use Rattle.query_texts.specs.clauses.Keys.{all_keys, at_place, is_key, other_keys, unless_key}

module _ (width : ℕ) where
  abbrev IsWithin : Key → Type 0
  IsWithin key = key.place < width

  column-within : (b : Bool) (place : ℕ) → place < width → KeysWithin width (cond b [] (at_place place ∷ []))
  column-within true place h = All-nil IsWithin
  column-within false place h = All-cons IsWithin (at_place place) [] h (All-nil IsWithin)

  others-within : (keys : List Key) (start count : ℕ) → start + count ≤ width → KeysWithin width (other_keys keys (range_with_len start count))
  others-within keys start zero h = All-nil IsWithin
  others-within keys start (suc count) h =
      All-append IsWithin (unless_key keys start) (other_keys keys (range_with_len (start + 1) count))
      (column-within (is_key keys start) start (omega (arith, h))) (others-within keys (start + 1) count (omega (arith, h)))

  pub all_keys-within : (keys : List Key) → KeysWithin width keys → KeysWithin width (all_keys width keys)
  all_keys-within keys h = All-append IsWithin keys (other_keys keys (range_with_len 0 width)) h (others-within keys 0 width (omega arith))
