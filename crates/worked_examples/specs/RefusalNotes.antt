-- Notes on refusals, worked out. In the script the second line begins with a tab and has a character of two bytes:
--     SELECT a
--     <tab>FROM é, r;      (é: 195 169)
use Rattle.std.specs.Prelude.{◌≡◌, ℕ, List, [], ◌∷◌, ◌++◌, map, refl, codes}
use Rattle.std.specs.Fmt.{digits}
use Rattle.csv.specs.Machine.{next_record}
use Rattle.csv.specs.Reading.{records_from, strip_bom}
use Rattle.csv_tables.specs.declared.data_error.DataError.TheVariants.{Width, NotText}
use Rattle.refusal_hints.specs.Tables.{name_texts}
use Rattle.refusal_notes.specs.declared.cause.Cause.TheVariants.{At, NoScript, Data, Unread}
use Rattle.refusal_notes.specs.Excerpts.{excerpt}
use Rattle.refusal_notes.specs.Notes.{note_of}

abbrev name : List ℕ
name = codes "report.sql"

abbrev line : List ℕ
line = 9 ∷ codes "FROM " ++ 195 ∷ 169 ∷ codes ", r;"

abbrev script : List ℕ
script = codes "SELECT a\n" ++ line ++ codes "\n"

unknown-column : note_of (At 11 7) name script [] ≡ codes "report.sql:1:8: no column of this name (E11)\nSELECT a\n       ^\n"
unfolding digits name_texts
unknown-column = refl

-- a tab stands under the tab, and one blank under the two bytes
unknown-table : note_of (At 10 19) name script [] ≡ codes "report.sql:2:10: no table or view of this name (E10)\n" ++ line ++ codes "\n" ++ 9 ∷ codes "        ^\n"
unfolding digits name_texts
unknown-table = refl

-- a number that no cause has
no-cause : note_of (At 7 19) name script [] ≡ []
unfolding digits
no-cause = refl

no-script : note_of NoScript name [] [] ≡ codes "report.sql: there is no file of the name that is given (E40)\n"
unfolding digits
no-script = refl

unread-file : note_of Unread (codes "a.csv") [] [] ≡ codes "a.csv: this file couldn't be opened or read (E50)\n"
unfolding digits
unread-file = refl

wide-record : note_of (Data (Width 12)) (codes "a.csv") [] [] ≡ codes "a.csv: record 12: this record has another number of fields than the table has columns (E42)\n"
unfolding digits records_from strip_bom next_record
wide-record = refl

binary-field : note_of (Data (NotText 3 2)) (codes "a.csv") [] [] ≡ codes "a.csv: record 3, field 2: this field isn't UTF-8 (E44)\nhint: save the file as UTF-8\n"
unfolding digits
binary-field = refl

-- of a line of 180 bytes 80 are shown to each side of the 91st
abbrev ten : List ℕ
ten = codes "0123456789"

abbrev eighty : List ℕ
eighty = ten ++ ten ++ ten ++ ten ++ ten ++ ten ++ ten ++ ten

long-line : excerpt (ten ++ eighty ++ eighty ++ ten) 90 ≡
    codes ".." ++ eighty ++ eighty ++ codes "..\n" ++ map (λ _. 32) (codes ".." ++ eighty) ++ codes "^\n"
long-line = refl
