use Rattle.std.proofs.Common.{◌≡◌, take}
use Rattle.bag_algebra.specs.Kinds.{place_kinds}
use Rattle.name_seen_cores.proofs.places.kinds_of_places.Given as goal

abbrev pub invariant-loop-place : goal.invariant-loop-place
invariant-loop-place l = l.kinds ≡ place_kinds (take l.place-index l.places)
