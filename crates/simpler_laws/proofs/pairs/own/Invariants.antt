use Rattle.std.proofs.Common.{◌≡◌, filter, take}
use Rattle.simpler_laws.specs.Sides.{is_own}
use Rattle.simpler_laws.proofs.pairs.own.Given as goal

abbrev pub invariant-loop-test : goal.invariant-loop-test
invariant-loop-test l = l.found ≡ filter is_own (take l.test-index l.tests)
