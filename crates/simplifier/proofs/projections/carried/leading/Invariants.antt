use Rattle.simplifier.specs.projections.Carried.{Leads}
use Rattle.simplifier.proofs.projections.carried.leading.Given as goal

abbrev pub invariant-loop-number : goal.invariant-loop-number
invariant-loop-number l = Leads l.number l.places
