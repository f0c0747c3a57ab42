use Rattle.std.proofs.Common.{◌≡◌, filter, take}
use Rattle.simpler_laws.specs.Sides.{is_of_both}
use Rattle.simpler_laws.proofs.pairs.of_both.Given as goal

abbrev pub invariant-loop-test : goal.invariant-loop-test
invariant-loop-test l = l.found ≡ filter (is_of_both l.left l.right) (take l.test-index l.tests)
