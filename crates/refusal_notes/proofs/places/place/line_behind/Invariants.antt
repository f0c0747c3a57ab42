use Rattle.std.proofs.Common.{◌≡◌, ◌≤◌, suc, take}
use Rattle.refusal_notes.specs.places.Places.{line_behind}
use Rattle.refusal_notes.proofs.places.place.line_behind.Given as goal

-- the line behind the bytes so far, which are at least as many as the lines before it
abbrev pub invariant-loop-byte : goal.invariant-loop-byte
invariant-loop-byte l = (l.line ≡ line_behind (take l.byte-index l.before)) × (l.line ≤ suc l.byte-index)
