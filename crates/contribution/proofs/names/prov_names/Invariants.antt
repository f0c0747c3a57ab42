use Rattle.std.proofs.Common.{◌≡◌, ◌++◌, take, drop, flat_map}
use Rattle.bag_algebra.specs.PlaceNames.{names_behind, place_names, relations_of}
use Rattle.contribution.specs.RelationNumbers.{Numbers}
use Rattle.contribution.proofs.names.prov_names.Given as goal

-- the names so far and those of the places that are left, and how often each relation stands so far
abbrev pub invariant-loop-place : goal.invariant-loop-place
invariant-loop-place l =
    (l.names ++ names_behind (flat_map relations_of (take l.place-index l.places)) (drop l.place-index l.places) ≡ place_names l.places)
    × Numbers l.numbers.entries (flat_map relations_of (take l.place-index l.places))
