use Rattle.std.proofs.Common.{◌≡◌, drop}
use Rattle.simplifier.specs.projections.Carried.{all_reach}
use Rattle.simplifier.proofs.projections.carried.all_reach.Given as goal

abbrev pub invariant-loop-sub : goal.invariant-loop-sub
invariant-loop-sub l = all_reach l.first l.subs ≡ all_reach l.first (drop l.sub-index l.subs)
