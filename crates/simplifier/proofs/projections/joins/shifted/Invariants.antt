use Rattle.std.proofs.Common.{◌≡◌, ◌+◌, map, take}
use Rattle.simplifier.proofs.projections.joins.shifted.Given as goal

abbrev pub invariant-loop-place : goal.invariant-loop-place
invariant-loop-place l = l.made ≡ map (λ place. l.width + place) (take l.place-index l.places)
