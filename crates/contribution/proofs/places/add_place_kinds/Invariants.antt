use Rattle.std.proofs.Common.{◌≡◌, ◌++◌, take}
use Rattle.bag_algebra.specs.Kinds.{place_kinds}
use Rattle.contribution.proofs.places.add_place_kinds.Given as goal

abbrev pub invariant-loop-place : goal.invariant-loop-place
invariant-loop-place l = l.found ≡ l.initial.found ++ place_kinds (take l.place-index l.places)
