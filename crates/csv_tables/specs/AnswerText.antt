-- The text of an answer: CSV in the sense of RFC 4180, with a line feed as the line's end, names and texts
-- always in quotes, and a last line that counts the rows.
use Rattle.std.specs.Prelude.{ℕ, zero, suc, Bool, true, false, if◌then◌else◌, ◌==◌, List, [], ◌∷◌, ◌++◌, map, length, codes}
use Rattle.std.specs.Fmt.{decimal, signed_decimal}
use Rattle.std.specs.List.{flat_map, join_with_byte}
use Rattle.perm_values.specs.declared.value.Value.{Value}
use Rattle.perm_values.specs.declared.value.Value.TheVariants.{Null, Integer, Text, Boolean}

abbrev pub comma : ℕ
comma = 44

abbrev pub quote : ℕ
quote = 34

abbrev pub line_feed : ℕ
line_feed = 10

-- a byte of a text between quotes: a quote is written twice
abbrev pub escaped : ℕ → List ℕ
escaped byte = if byte == quote then quote ∷ quote ∷ [] else byte ∷ []

-- a text in double quotes
abbrev pub quoted : List ℕ → List ℕ
quoted text = (quote ∷ []) ++ flat_map escaped text ++ (quote ∷ [])

abbrev pub truth_text : Bool → List ℕ
truth_text true = codes "true"
truth_text false = codes "false"

-- a value as a field: NULL is empty, and an empty text is a pair of quotes
abbrev pub field_text : Value → List ℕ
field_text Null = []
field_text (Integer number) = signed_decimal number
field_text (Text text) = quoted text
field_text (Boolean truth) = truth_text truth

-- what stands before the field at a place, counted from 0
abbrev pub separator : ℕ → List ℕ
separator zero = []
separator (suc place) = comma ∷ []

-- fields with a comma between each two
abbrev pub line : List (List ℕ) → List ℕ
line fields = join_with_byte comma fields ++ (line_feed ∷ [])

abbrev pub header_line : List (List ℕ) → List ℕ
header_line names = line (map quoted names)

abbrev pub row_line : List Value → List ℕ
row_line row = line (map field_text row)

-- the number of rows, `(1 rows)` for one
abbrev pub count_text : ℕ → List ℕ
count_text count = codes "(" ++ decimal count ++ codes " rows)"

abbrev pub count_line : ℕ → List ℕ
count_line count = line (count_text count ∷ [])

-- the header, a line for each row in the order given, and their number
abbrev pub answer_bytes : List (List ℕ) → List (List Value) → List ℕ
answer_bytes names rows = header_line names ++ flat_map row_line rows ++ count_line (length rows)
