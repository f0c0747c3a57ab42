-- What files and an output tell and count, and what a file of the system has left, as far as the system tells it.
use Rattle.std.specs.Prelude.{ℕ, Bool, List, [], Option, None, Some}
use Rattle.perm_io.specs.declared.named_file.NamedFile.{NamedFile}

-- the files there are and what is left of the one begun, where they are told, nothing where none is begun; how often a call
-- failed, and how often a file was begun or its begin failed; how many bytes were read since the last begin, and whether
-- that found no file of its name
pub record FilesTold : Type 0 where
  pub held : Option (List NamedFile)
  pub rest : Option (List ℕ)
  pub faults : ℕ
  pub begun : ℕ
  pub taken : ℕ
  pub absent : Bool

-- the bytes that an output took, where they are told; how often a call failed; and whether a byte was taken since the last
-- flush that answered Ok
pub record SinkTold : Type 0 where
  pub written : Option (List ℕ)
  pub faults : ℕ
  pub unflushed : Bool

-- what is left of the file that is open, by what its reader tells, and nothing where none is open
abbrev pub left_in : {F : Type 0} → (F → Option (List ℕ)) → Option F → Option (List ℕ)
left_in remaining None = Some []
left_in remaining (Some file) = remaining file

-- no bytes are told
abbrev pub untold : Option (List ℕ)
untold = None
