use Rattle.std.proofs.Common.{◌≡◌, ◌++◌, drop, take}
use Rattle.name_meaning.specs.Statements.{noted}
use Rattle.name_inside.proofs.noted.place_for.Given as goal

-- it comes behind those so far
abbrev pub invariant-loop-place : goal.invariant-loop-place
invariant-loop-place l = noted l.name l.sorted ≡ take l.place l.sorted ++ noted l.name (drop l.place l.sorted)
