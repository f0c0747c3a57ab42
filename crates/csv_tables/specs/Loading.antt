-- The rows that a file of comma-separated values spells for columns of given kinds, and the rules that its records
-- break. What a record is, is the csv crate's own definition, with its defaults: commas, double quotes, any line end.
use Rattle.std.specs.Prelude.{◌≡◌, ℕ, ◌+◌, ◌^◌, ℤ, pos, negsuc, Bool, true, false, ◌==◌, ◌&&◌, nat_lt, if◌then◌else◌, List, [], ◌∷◌, ◌++◌, map, drop, length, Option, Some, None, ⊤}
use Rattle.std.specs.Str.{all_ascii_digits, bytes_eq, is_utf8}
use Rattle.std.specs.Str.Parse.{signed_digits_value, without_leading_sign}
use Rattle.csv.specs.Reading.{default_config, records, strip_bom}
use Rattle.perm_values.specs.declared.kind.Kind.{Kind}
use Rattle.perm_values.specs.declared.kind.Kind.TheVariants as kind
use Rattle.perm_values.specs.declared.value.Value.{Value}
use Rattle.perm_values.specs.declared.value.Value.TheVariants.{Null, Integer, Text}
use Rattle.csv_tables.specs.declared.data_error.DataError.{DataError}
use Rattle.csv_tables.specs.declared.data_error.DataError.TheVariants.{Width, NotInteger, NotText, NoMemory}

-- one digit or more, and nothing else
abbrev pub is_numeral : List ℕ → Bool
is_numeral digits = nat_lt 0 (length digits) && all_ascii_digits digits

abbrev pub fits_64_bits : ℤ → Bool
fits_64_bits (pos n) = nat_lt n (2 ^ 63)
fits_64_bits (negsuc n) = nat_lt n (2 ^ 63)

-- an optional sign and digits, whose number fits 64 bits
abbrev pub is_integer : List ℕ → Bool
is_integer field = is_numeral (without_leading_sign field) && fits_64_bits (signed_digits_value 10 field)

-- the number that a field spells, if it is an integer
abbrev pub integer_of : List ℕ → Option ℤ
integer_of field = if is_integer field then Some (signed_digits_value 10 field) else None

-- what a field that isn't the null field stands for; no field spells a boolean, and no table has a column of them
abbrev pub spelled : Kind → List ℕ → Value
spelled kind.Integer field = Integer (signed_digits_value 10 field)
spelled kind.Text field = Text field
spelled kind.Boolean field = Null

-- the null field stands for NULL, in a column of texts too
abbrev pub field_value : List ℕ → Kind → List ℕ → Value
field_value null_field kind field = if bytes_eq field null_field then Null else spelled kind field

-- the values of a record, field by field
abbrev pub row_values : List ℕ → List Kind → List (List ℕ) → List Value
row_values null_field [] fields = []
row_values null_field (kind ∷ kinds) [] = []
row_values null_field (kind ∷ kinds) (field ∷ fields) = field_value null_field kind field ∷ row_values null_field kinds fields

-- the rule that the field at a place of a record breaks, where it isn't the null field
abbrev pub kind_breaks : ℕ → ℕ → Kind → List ℕ → List DataError
kind_breaks row place kind.Integer field = if is_integer field then [] else NotInteger row place ∷ []
kind_breaks row place kind.Text field = if is_utf8 field then [] else NotText row place ∷ []
kind_breaks row place kind.Boolean field = []

abbrev pub field_breaks : List ℕ → ℕ → ℕ → Kind → List ℕ → List DataError
field_breaks null_field row place kind field = if bytes_eq field null_field then [] else kind_breaks row place kind field

-- the rules that the fields of a record break from a place on, from left to right
abbrev pub fields_breaks : List ℕ → ℕ → ℕ → List Kind → List (List ℕ) → List DataError
fields_breaks null_field row place [] fields = []
fields_breaks null_field row place (kind ∷ kinds) [] = []
fields_breaks null_field row place (kind ∷ kinds) (field ∷ fields) =
    field_breaks null_field row place kind field ++ fields_breaks null_field row (place + 1) kinds fields

-- a record has as many fields as there are columns
abbrev pub width_breaks : ℕ → List Kind → List (List ℕ) → List DataError
width_breaks row kinds fields = if length fields == length kinds then [] else Width row ∷ []

-- the rules that a record breaks: its width comes first, then its fields, which count from 1
abbrev pub record_breaks : List ℕ → List Kind → ℕ → List (List ℕ) → List DataError
record_breaks null_field kinds row fields = width_breaks row kinds fields ++ fields_breaks null_field row 1 kinds fields

-- the rules that records break, of which the first has this number
abbrev pub records_breaks : List ℕ → List Kind → ℕ → List (List (List ℕ)) → List DataError
records_breaks null_field kinds row [] = []
records_breaks null_field kinds row (fields ∷ more) =
    record_breaks null_field kinds row fields ++ records_breaks null_field kinds (row + 1) more

-- how many records stand before the rows
abbrev pub skipped : Bool → ℕ
skipped true = 1
skipped false = 0

-- the records of a file that stand for rows; with a header, the first record is left out, whatever it holds
abbrev pub row_records : Bool → List ℕ → List (List (List ℕ))
row_records header bytes = drop (skipped header) (records default_config (strip_bom bytes))

-- the whole list of the rules that a file breaks; its records count from 1, the header too
abbrev pub broken_rules : List ℕ → List Kind → Bool → List ℕ → List DataError
broken_rules null_field kinds header bytes = records_breaks null_field kinds (skipped header + 1) (row_records header bytes)

-- the rows that a file spells
abbrev pub spelled_rows : List ℕ → List Kind → Bool → List ℕ → List (List Value)
spelled_rows null_field kinds header bytes = map (row_values null_field kinds) (row_records header bytes)

abbrev pub first_of : {X : Type 0} → List X → Option X
first_of [] = None
first_of (x ∷ xs) = Some x

-- the error is the first of the broken rules; want of memory says nothing of them
abbrev pub IsFirstBroken : List DataError → DataError → Type 0
IsFirstBroken broken (Width row) = first_of broken ≡ Some (Width row)
IsFirstBroken broken (NotInteger row field) = first_of broken ≡ Some (NotInteger row field)
IsFirstBroken broken (NotText row field) = first_of broken ≡ Some (NotText row field)
IsFirstBroken broken NoMemory = ⊤
