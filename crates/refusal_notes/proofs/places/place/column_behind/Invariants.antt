use Rattle.std.proofs.Common.{◌≡◌, ◌≤◌, suc, take}
use Rattle.refusal_notes.specs.places.Places.{column_behind}
use Rattle.refusal_notes.proofs.places.place.column_behind.Given as goal

-- the column behind the bytes so far
abbrev pub invariant-loop-byte : goal.invariant-loop-byte
invariant-loop-byte l = (l.column ≡ column_behind (take l.byte-index l.before)) × (l.column ≤ suc l.byte-index)
