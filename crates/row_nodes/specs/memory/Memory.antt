-- What was found on rows, by the values that these have at some places.
use Rattle.std.specs.Prelude.{◌≡◌, ℕ, false, List, Option, Some}
use Rattle.std.specs.Map.{lookup}
use Rattle.perm_values.specs.Rows.{same_row}
use Rattle.perm_values.specs.declared.value.Value.{Value}

-- the places, the values of the row at hand there, and what was found under values
pub record Remembered (A : Type 0) : Type 0 where
  pub places : List ℕ
  pub key : List Value
  pub entries : List (List Value × A)

abbrev pub remembered : {A : Type 0} → List ℕ → List Value → List (List Value × A) → Remembered A
remembered places key entries = record { places = places; key = key; entries = entries }

-- what was found under these values
abbrev pub found_under : {A : Type 0} → Remembered A → List Value → Option A
found_under memory key = lookup (same_row key) memory.entries

-- for the row at hand
abbrev pub found : {A : Type 0} → Remembered A → Option A
found memory = found_under memory memory.key

-- the memory is of the same places and row, and remembers nothing that it didn't remember
pub record Forgets {A : Type 0} (old new : Remembered A) : Type 0 where
  pub places_stay : new.places ≡ old.places
  pub key_stays : new.key ≡ old.key
  pub fewer : (key : List Value) (item : A) → found_under new key ≡ Some item → found_under old key ≡ Some item

-- the same but for what was found for the row at hand
pub record Learns {A : Type 0} (old new : Remembered A) (item : A) : Type 0 where
  pub places_stay : new.places ≡ old.places
  pub key_stays : new.key ≡ old.key
  pub item_is : found new ≡ Some item
  pub others : (key : List Value) (other : A) → same_row old.key key ≡ false → found_under new key ≡ Some other → found_under old key ≡ Some other
