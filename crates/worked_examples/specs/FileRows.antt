-- The rows of small files, and the rules that they break, worked out.
use Rattle.std.proofs.Common.{◌≡◌, pos, negsuc, true, false, [], ◌∷◌, ◌++◌, codes, refl}
use Rattle.std.specs.Str.{chars, is_utf8}
use Rattle.csv.specs.Machine.{next_record}
use Rattle.csv.specs.Reading.{records_from, strip_bom}
use Rattle.perm_values.specs.declared.kind.Kind.TheVariants as kind
use Rattle.perm_values.specs.declared.value.Value.TheVariants.{Null, Integer, Text}
use Rattle.csv_tables.specs.Loading.{broken_rules, spelled_rows}
use Rattle.csv_tables.specs.declared.data_error.DataError.TheVariants.{Width, NotInteger, NotText}
use Rattle.worked_examples.specs.Queries.{int_and_text as kinds}

-- the last line end may be missing, and the empty field is NULL, in quotes too
no_last_line_end : spelled_rows [] kinds false (codes "1,x\n,\"\"") ≡ (Integer (pos 1) ∷ Text (codes "x") ∷ []) ∷ (Null ∷ Null ∷ []) ∷ []
unfolding records_from strip_bom next_record
no_last_line_end = refl

-- a byte order mark is no part of the first field, and a line may end with a carriage return and a line feed
byte_order_mark : spelled_rows [] kinds false ((239 ∷ 187 ∷ 191 ∷ []) ++ codes "-2,y\r\n+3,z\r\n") ≡ (Integer (negsuc 1) ∷ Text (codes "y") ∷ []) ∷ (Integer (pos 3) ∷ Text (codes "z") ∷ []) ∷ []
unfolding records_from strip_bom next_record
byte_order_mark = refl

-- a line end in quotes is part of the field, and a blank line is no record
line_end_in_quotes : spelled_rows [] kinds false (codes "1,\"a\nb\"\n\n2,c\n") ≡ (Integer (pos 1) ∷ Text (codes "a\nb") ∷ []) ∷ (Integer (pos 2) ∷ Text (codes "c") ∷ []) ∷ []
unfolding records_from strip_bom next_record
line_end_in_quotes = refl

-- with another mark the empty field is the empty text
another_mark : spelled_rows (codes "-") kinds false (codes "-,\n") ≡ (Null ∷ Text [] ∷ []) ∷ []
unfolding records_from strip_bom next_record
another_mark = refl

-- the header counts as a record, whatever it holds
header_counts : broken_rules [] (kind.Integer ∷ []) true (codes "a,b\n1\nz\n") ≡ NotInteger 3 1 ∷ []
unfolding records_from strip_bom next_record
header_counts = refl

-- of a record the width comes first
width_first : broken_rules [] kinds false (codes "z\n") ≡ Width 1 ∷ NotInteger 1 1 ∷ []
unfolding records_from strip_bom next_record
width_first = refl

no_text : broken_rules [] kinds false (codes "1," ++ 255 ∷ []) ≡ NotText 1 2 ∷ []
unfolding records_from strip_bom next_record is_utf8 chars
no_text = refl

no_bytes : spelled_rows [] kinds true [] ≡ []
unfolding records_from strip_bom next_record
no_bytes = refl
