use Rattle.std.proofs.Common.{◌≡◌, filter, take}
use Rattle.simpler_laws.specs.Sides.{is_around}
use Rattle.simpler_laws.proofs.pairs.around.Given as goal

abbrev pub invariant-loop-test : goal.invariant-loop-test
invariant-loop-test l = l.found ≡ filter is_around (take l.test-index l.tests)
