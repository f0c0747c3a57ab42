-- What a note advises, behind what it tells.
use Rattle.std.specs.Prelude.{ℕ, ◌==◌, cond, ◌||◌, List, [], ◌++◌, length, map, codes}
use Rattle.std.specs.Fmt.{decimal}
use Rattle.refusal_hints.specs.Fields.{field_advice, field_count, field_of, separator_advice}
use Rattle.refusal_hints.specs.Hints.{script_hint}
use Rattle.refusal_notes.specs.Excerpts.{behind_piece, shown}

-- a line of advice, where there is some
abbrev pub hint_line : List ℕ → List ℕ
hint_line advice = cond (length advice == 0) [] (codes "hint: " ++ map shown advice ++ codes "\n")

-- which file is meant, where its name is known
abbrev pub file_hint : List ℕ → List ℕ
file_hint copied = cond (length copied == 0) [] (codes "hint: the file is " ++ map shown copied ++ codes ", as seen from where perm is called\n")

-- at an offset of a script
abbrev pub place_hint : ℕ → List ℕ → ℕ → List ℕ → List ℕ
place_hint code script at copied = cond ((code == 40) || (code == 41)) (file_hint copied) (hint_line (script_hint code script at))

abbrev pub count_line : ℕ → List ℕ
count_line count = codes "hint: fields of this record: " ++ decimal count ++ codes "\n"

-- how many fields a record has, and what its first one looks like
abbrev pub count_hints : ℕ → List ℕ → List ℕ
count_hints count first = count_line count ++ hint_line (separator_advice first)

-- of a record of a file with another number of fields than is needed, where the file has the record
abbrev pub width_hints : List ℕ → ℕ → List ℕ
width_hints file row = cond (field_count file row == 0) [] (count_hints (field_count file row) (field_of file row 1))

abbrev pub piece_line : List ℕ → List ℕ
piece_line field = codes "hint: the field is '" ++ map shown (behind_piece field) ++ codes "'\n"

-- of a field that is no integer, in the record of a number: its beginning, and what it looks like
abbrev pub field_hints : ℕ → List ℕ → List ℕ
field_hints row field = piece_line field ++ hint_line (field_advice row field)

-- where the file has the record
abbrev pub integer_hints : List ℕ → ℕ → ℕ → List ℕ
integer_hints file row field = cond (field_count file row == 0) [] (field_hints row (field_of file row field))

-- of a field that is no text
abbrev pub text_hint : List ℕ
text_hint = codes "hint: save the file as UTF-8\n"
