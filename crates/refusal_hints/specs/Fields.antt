-- The fields of a record of a CSV file, and what is advised of one that is no integer.
use Rattle.std.specs.Prelude.{ℕ, zero, suc, ◌==◌, nat_lt, Bool, ◌&&◌, ◌||◌, cond, List, [], ◌∷◌, length, codes}
use Rattle.std.specs.List.{list_all, list_any, prefix_len, suffix_len}
use Rattle.std.specs.Char.{is_ascii_digit}
use Rattle.csv.specs.Reading.{default_config, records, strip_bom}
use Rattle.refusal_hints.specs.Advice.{or_else}

-- the list of a number, from 1; an empty one where there is none
abbrev pub numbered : {X : Type 0} → List (List X) → ℕ → List X
numbered [] number = []
numbered (list ∷ lists) zero = []
numbered (list ∷ lists) (suc zero) = list
numbered (list ∷ lists) (suc (suc number)) = numbered lists (suc number)

-- the fields of the record of a number, as COPY reads them
abbrev pub record_of : List ℕ → ℕ → List (List ℕ)
record_of file row = numbered (records default_config (strip_bom file)) row

abbrev pub field_count : List ℕ → ℕ → ℕ
field_count file row = length (record_of file row)

abbrev pub field_of : List ℕ → ℕ → ℕ → List ℕ
field_of file row field = numbered (record_of file row) field

abbrev pub has_byte : List ℕ → ℕ → Bool
has_byte field byte = list_any (λ other. other == byte) field

-- where another mark than a comma separates
abbrev pub separator_advice : List ℕ → List ℕ
separator_advice field =
    cond (has_byte field 59) (codes "only a comma separates fields: this file seems to have semicolons")
    (cond (has_byte field 9) (codes "only a comma separates fields: this file seems to have tabs") [])

abbrev pub is_of_date : ℕ → Bool
is_of_date byte = is_ascii_digit byte || (byte == 45) || (byte == 47)

-- digits in front, and then digits, - and /, of which at least one is no digit
abbrev pub is_date : List ℕ → Bool
is_date field = nat_lt 0 (prefix_len is_ascii_digit field) && list_all is_of_date field && (has_byte field 45 || has_byte field 47)

-- point, comma, apostrophe, blank and the signs
abbrev pub is_mark : ℕ → Bool
is_mark byte = (byte == 46) || (byte == 44) || (byte == 39) || (byte == 32) || (byte == 45) || (byte == 43)

abbrev pub is_of_amount : ℕ → Bool
is_of_amount byte = is_ascii_digit byte || is_mark byte

-- a number with marks
abbrev pub is_amount : List ℕ → Bool
is_amount field = list_any is_ascii_digit field && list_all is_of_amount field

-- three digits stand behind a mark between thousands
abbrev pub amount_advice : List ℕ → List ℕ
amount_advice field =
    cond (suffix_len is_ascii_digit field == 3) (codes "an integer has no marks between thousands: leave them out")
    (codes "numbers are whole: write 12.50 as 1250, in cents, and leave out marks between thousands")

abbrev pub kind_advice : List ℕ → List ℕ
kind_advice field =
    cond (is_date field) (codes "there are no dates: keep them in a TEXT column, best as 2024-01-31")
    (cond (is_amount field) (amount_advice field) [])

abbrev pub row_advice : ℕ → List ℕ
row_advice row =
    cond (row == 1) (codes "where the first record names the columns, HEADER behind the name of the file in COPY leaves it out")
    (codes "an integer is digits, maybe with a sign in front, from -9223372036854775808 to 9223372036854775807")

-- of a field that is no integer, in the record of a number
abbrev pub field_advice : ℕ → List ℕ → List ℕ
field_advice row field = or_else (or_else (separator_advice field) (kind_advice field)) (row_advice row)
