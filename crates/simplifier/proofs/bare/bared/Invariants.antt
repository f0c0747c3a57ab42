use Rattle.simplifier.specs.Bare.{AllBared}
use Rattle.simplifier.proofs.bare.bared.Given as goal

abbrev pub invariant-loop-sub : goal.invariant-loop-sub
invariant-loop-sub l = AllBared l.fn.subs l.sub-items
