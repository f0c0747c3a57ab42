-- The lines that name why a run ends.
use Rattle.std.specs.Prelude.{ℕ, nat_lt, cond, List, [], ◌++◌, codes}
use Rattle.std.specs.Fmt.{decimal}
use Rattle.csv_tables.specs.declared.data_error.DataError.{DataError}
use Rattle.csv_tables.specs.declared.data_error.DataError.TheVariants.{Width, NotInteger, NotText, NoMemory}

-- a number of at least two digits
abbrev pub two_digits : ℕ → List ℕ
two_digits n = cond (nat_lt n 10) (codes "0") [] ++ decimal n

-- a cause by its number, at an offset in the script
abbrev pub error_line : ℕ → ℕ → List ℕ
error_line code at = codes "error E" ++ two_digits code ++ codes " at " ++ decimal at ++ codes "\n"

-- a cause at a record of a file
abbrev pub record_line : List ℕ → ℕ → List ℕ
record_line cause row = cause ++ codes " record " ++ decimal row ++ codes "\n"

-- a cause at a field of a record
abbrev pub field_line : List ℕ → ℕ → ℕ → List ℕ
field_line cause row field = cause ++ codes " record " ++ decimal row ++ codes " field " ++ decimal field ++ codes "\n"

-- what is wrong with a file's records; want of memory has no line
abbrev pub data_line : DataError → List ℕ
data_line (Width row) = record_line (codes "error E42") row
data_line (NotInteger row field) = field_line (codes "error E43") row field
data_line (NotText row field) = field_line (codes "error E44") row field
data_line NoMemory = []
