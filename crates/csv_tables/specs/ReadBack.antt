-- The records that csv reads from the text of an answer. NULL and the empty text both read as the empty field.
use Rattle.std.specs.Prelude.{ℕ, Bool, true, false, if◌then◌else◌, List, [], ◌∷◌, ◌++◌, map, length}
use Rattle.std.specs.Fmt.{signed_decimal}
use Rattle.std.specs.List.{flat_map}
use Rattle.perm_values.specs.Values.{is_null}
use Rattle.perm_values.specs.declared.value.Value.{Value}
use Rattle.perm_values.specs.declared.value.Value.TheVariants.{Null, Integer, Text, Boolean}
use Rattle.csv_tables.specs.AnswerText.{count_text, truth_text}

-- a value as a field without quotes
abbrev pub plain_text : Value → List ℕ
plain_text Null = []
plain_text (Integer number) = signed_decimal number
plain_text (Text text) = text
plain_text (Boolean truth) = truth_text truth

-- the row's line is blank: it has no value, or NULL alone
abbrev pub is_blank : List Value → Bool
is_blank [] = true
is_blank (value ∷ []) = is_null value
is_blank (value ∷ next ∷ more) = false

-- a blank line gives no record
abbrev pub row_records : List Value → List (List (List ℕ))
row_records row = if is_blank row then [] else map plain_text row ∷ []

abbrev pub header_records : List (List ℕ) → List (List (List ℕ))
header_records [] = []
header_records (name ∷ names) = (name ∷ names) ∷ []

-- the names, the rows whose lines aren't blank, and the line of the count, which is one field
abbrev pub answer_records : List (List ℕ) → List (List Value) → List (List (List ℕ))
answer_records names rows = header_records names ++ flat_map row_records rows ++ ((count_text (length rows) ∷ []) ∷ [])
