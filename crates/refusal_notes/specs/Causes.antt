-- The lines that name why a run ends.
use Rattle.std.specs.Prelude.{ℕ, ◌<◌, ◌^◌, ◌==◌, Bool, not, List, codes}
use Rattle.csv_tables.specs.Lines.{data_line, error_line}
use Rattle.csv_tables.specs.declared.data_error.DataError.{DataError}
use Rattle.csv_tables.specs.declared.data_error.DataError.TheVariants.{Width, NotInteger, NotText, NoMemory}
use Rattle.refusal_notes.specs.declared.cause.Cause.{Cause}
use Rattle.refusal_notes.specs.declared.cause.Cause.TheVariants.{At, NoScript, LongScript, Data, Unread}

-- the line that names the cause
abbrev pub line_of : Cause → List ℕ
line_of (At code at) = error_line code at
line_of NoScript = codes "error E40 script\n"
line_of LongScript = codes "error E41 script\n"
line_of (Data error) = data_line error
line_of Unread = codes "error E50\n"

-- want of memory has no line
abbrev pub IsDataCause : DataError → Type 0
IsDataCause (Width row) = row < 2 ^ 64
IsDataCause (NotInteger row field) = (row < 2 ^ 64) × (field < 2 ^ 64)
IsDataCause (NotText row field) = (row < 2 ^ 64) × (field < 2 ^ 64)
IsDataCause NoMemory = ⊥

-- a code has at most two digits, and a number 64 bits
abbrev pub IsCause : Cause → Type 0
IsCause (At code at) = (code < 100) × (at < 2 ^ 64)
IsCause NoScript = Unit {0}
IsCause LongScript = Unit {0}
IsCause (Data error) = IsDataCause error
IsCause Unread = Unit {0}

abbrev pub not_blank : ℕ → Bool
not_blank byte = not (byte == 32)
