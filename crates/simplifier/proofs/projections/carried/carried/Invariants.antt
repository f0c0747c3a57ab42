use Rattle.std.proofs.Common.{◌≡◌, true}
use Rattle.simplifier.proofs.projections.CarriedSublinks.{CarriedTo}
use Rattle.simplifier.proofs.projections.carried.carried.Given as goal

abbrev pub invariant-loop-sub : goal.invariant-loop-sub
invariant-loop-sub l = l.all ≡ true → CarriedTo l.fn.places l.sub-index l.fn.subs l.sub-items
