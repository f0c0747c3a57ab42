use Rattle.std.proofs.Common.{◌≡◌, filter, take}
use Rattle.simpler_laws.specs.Parts.{is_bound}
use Rattle.simpler_laws.proofs.filters.bound.Given as goal

abbrev pub invariant-loop-test : goal.invariant-loop-test
invariant-loop-test l = l.found ≡ filter is_bound (take l.test-index l.all)
