-- The notes that tell a person of a refusal.
use Rattle.std.specs.Prelude.{ℕ, ◌==◌, cond, List, [], ◌++◌, length, map, codes}
use Rattle.std.specs.Fmt.{decimal}
use Rattle.csv_tables.specs.Lines.{two_digits}
use Rattle.csv_tables.specs.declared.data_error.DataError.{DataError}
use Rattle.csv_tables.specs.declared.data_error.DataError.TheVariants.{Width, NotInteger, NotText, NoMemory}
use Rattle.refusal_notes.specs.places.Places.{column_of, line_of}
use Rattle.refusal_notes.specs.declared.cause.Cause.{Cause}
use Rattle.refusal_notes.specs.declared.cause.Cause.TheVariants.{At, NoScript, LongScript, Data, Unread}
use Rattle.refusal_notes.specs.Excerpts.{excerpt, shown}
use Rattle.refusal_notes.specs.Hints.{integer_hints, place_hint, text_hint, width_hints}
use Rattle.refusal_notes.specs.Sentences.{sentence}

-- a sentence on a place, and the number of its code
abbrev pub told_at : List ℕ → ℕ → List ℕ
told_at place code = map shown place ++ codes ": " ++ sentence code ++ codes " (E" ++ two_digits code ++ codes ")\n"

-- a file, a line of it and a column
abbrev pub place_in : List ℕ → List ℕ → ℕ → List ℕ
place_in name script at = name ++ codes ":" ++ decimal (line_of script at) ++ codes ":" ++ decimal (column_of script at)

-- the place of a record of a file, and that of a field in it
abbrev pub record_in : List ℕ → ℕ → List ℕ
record_in name row = name ++ codes ": record " ++ decimal row

abbrev pub field_in : List ℕ → ℕ → ℕ → List ℕ
field_in name row field = record_in name row ++ codes ", field " ++ decimal field

-- a note on what is wrong with a file's records, with the file's bytes; want of memory has none
abbrev pub data_note : List ℕ → List ℕ → DataError → List ℕ
data_note name text (Width row) = told_at (record_in name row) 42 ++ width_hints text row
data_note name text (NotInteger row field) = told_at (field_in name row field) 43 ++ integer_hints text row field
data_note name text (NotText row field) = told_at (field_in name row field) 44 ++ text_hint
data_note name text NoMemory = []

-- the note on a cause, with the name and the bytes of the file that it speaks of, the script or a CSV file, and with the name of the file
-- that was copied last; none where the code is none
abbrev pub note_of : Cause → List ℕ → List ℕ → List ℕ → List ℕ
note_of (At code at) name text copied =
    cond (length (sentence code) == 0) [] (told_at (place_in name text at) code ++ excerpt text at ++ place_hint code text at copied)
note_of NoScript name text copied = told_at name 40
note_of LongScript name text copied = told_at name 41
note_of (Data error) name text copied = data_note name text error
note_of Unread name text copied = told_at name 50
