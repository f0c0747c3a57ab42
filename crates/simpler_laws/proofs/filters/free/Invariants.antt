use Rattle.std.proofs.Common.{◌≡◌, filter, take}
use Rattle.simpler_laws.specs.Parts.{is_free}
use Rattle.simpler_laws.proofs.filters.free.Given as goal

abbrev pub invariant-loop-test : goal.invariant-loop-test
invariant-loop-test l = l.found ≡ filter is_free (take l.test-index l.all)
