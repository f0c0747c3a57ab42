use Rattle.std.proofs.Common.{◌≡◌, filter, take}
use Rattle.simpler_laws.specs.Sides.{is_left}
use Rattle.simpler_laws.proofs.pairs.of_left.Given as goal

abbrev pub invariant-loop-test : goal.invariant-loop-test
invariant-loop-test l = l.found ≡ filter (is_left l.left) (take l.test-index l.tests)
