-- What became of a file that was begun.
use Rattle.std.specs.Prelude.{◌≡◌, ℕ, ◌≤◌, ◌<◌, List, length, Option, Some, None, IfSome, IsSomeAnd}
use Rattle.perm_io.specs.Named.{file_named}
use Rattle.perm_io.specs.declared.named_file.NamedFile.{NamedFile}

-- it was read whole, or there is none of its name, or it has more bytes than may be, or a call on it failed
pub data Found : Type 0 where
  Read : List ℕ → Found
  Missing : Found
  TooLong : Found
  Failed : Found

-- what can have become of the file of this name, which may have so many bytes: where the files are told they decide, and
-- it can fail only where a fault was met
abbrev pub CanBe : ℕ → Option (List NamedFile) → Type 0 → List ℕ → Found → Type 0
CanBe limit held fault name (Read bytes) = IfSome held (λ files. file_named files name ≡ Some bytes) × (length bytes ≤ limit)
CanBe limit held fault name Missing = IfSome held (λ files. file_named files name ≡ None)
CanBe limit held fault name TooLong = IfSome held (λ files. IsSomeAnd (file_named files name) (λ bytes. limit < length bytes))
CanBe limit held fault name Failed = fault
