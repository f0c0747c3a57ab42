use Rattle.std.proofs.Common.{◌≡◌}
use Rattle.simpler_laws.specs.Sides.{zeros}
use Rattle.simpler_laws.proofs.pairs.zeros.Given as goal

abbrev pub invariant-loop : goal.invariant-loop
invariant-loop l = l.numbers ≡ zeros l.counter
