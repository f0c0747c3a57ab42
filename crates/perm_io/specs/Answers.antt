-- What the answers of the calls say.
use Rattle.std.specs.Prelude.{Bool, true, false, not, Result, Ok, Err}
use Rattle.perm_io.specs.declared.files.BeginError.{BeginError}
use Rattle.perm_io.specs.declared.files.BeginError.TheVariants as begin
use Rattle.perm_io.specs.declared.reading.ReadError.{ReadError}
use Rattle.perm_io.specs.declared.reading.ReadError.TheVariants as read

-- a begin found its file
abbrev pub is_found : Result Bool BeginError → Bool
is_found (Ok found) = found
is_found (Err e) = false

-- a begin found no file of the name
abbrev pub is_absent : Result Bool BeginError → Bool
is_absent (Ok found) = not found
is_absent (Err e) = false

-- a begin failed, and not for want of memory
abbrev pub has_failed : Result Bool BeginError → Bool
has_failed (Ok found) = false
has_failed (Err begin.Failed) = true
has_failed (Err begin.NoMemory) = false

-- a reading of a whole file failed, and not for another reason
abbrev pub is_fault : {T : Type 0} → Result T ReadError → Bool
is_fault (Ok bytes) = false
is_fault (Err read.Missing) = false
is_fault (Err read.TooLarge) = false
is_fault (Err read.Fault) = true
is_fault (Err read.NoMemory) = false

-- what the failure of a begin is to the reading of a whole file
abbrev pub cause_of : BeginError → ReadError
cause_of begin.Failed = read.Fault
cause_of begin.NoMemory = read.NoMemory
