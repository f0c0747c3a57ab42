use Rattle.std.proofs.Common.{◌≡◌, ◌+◌, map, take}
use Rattle.rewrite_core.proofs.grouping.counted_from.Given as goal

abbrev pub invariant-loop-place : goal.invariant-loop-place
invariant-loop-place l = l.list ≡ map (λ place. l.from + place) (take l.place-index l.places)
