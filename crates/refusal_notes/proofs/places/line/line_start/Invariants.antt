use Rattle.std.proofs.Common.{◌≡◌, ◌≤◌, take, drop, reverse}
use Rattle.refusal_notes.specs.places.Places.{back_to_feed}
use Rattle.refusal_notes.proofs.places.line.line_start.Given as goal

-- the last line of the bytes so far begins there
abbrev pub invariant-loop-at : goal.invariant-loop-at
invariant-loop-at l = (l.start ≤ l.at) × (drop l.start (take l.at l.before) ≡ reverse (back_to_feed (take l.at l.before)))
