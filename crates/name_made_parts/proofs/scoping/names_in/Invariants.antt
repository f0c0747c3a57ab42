use Rattle.std.proofs.Common.{◌≡◌, take, drop}
use Rattle.name_made_parts.proofs.scoping.names_in.Given as goal

abbrev pub invariant-loop-place : goal.invariant-loop-place
invariant-loop-place l = l.found ≡ take l.count (drop l.first (take l.place l.names))
