use Rattle.std.proofs.Common.{take}
use Rattle.query_laws.specs.Standing.{SubsStand}
use Rattle.simplifier.proofs.passes.+under.Given as goal

abbrev pub invariant-nodes-loop-sub : goal.invariant-nodes-loop-sub
invariant-nodes-loop-sub l = SubsStand (take l.sub-index l.subs) l.others
