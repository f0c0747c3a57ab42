use Rattle.std.proofs.Common.{◌≡◌, ◌++◌, take, drop}
use Rattle.refusal_notes.specs.places.Places.{up_to_feed}
use Rattle.refusal_notes.proofs.places.line.line_length.Given as goal

-- none of the bytes so far is a line feed
abbrev pub invariant-loop-at : goal.invariant-loop-at
invariant-loop-at l = up_to_feed l.behind ≡ take l.at l.behind ++ up_to_feed (drop l.at l.behind)
