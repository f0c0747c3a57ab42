use Rattle.std.proofs.Common.{◌≡◌, drop}
use Rattle.perm_io.specs.Named.{file_named}
use Rattle.perm_io.proofs.shelf.place_of.Given as goal

-- no file so far has the name
abbrev pub invariant-loop-place : goal.invariant-loop-place
invariant-loop-place l = file_named (drop l.place l.files) l.name ≡ file_named l.files l.name
