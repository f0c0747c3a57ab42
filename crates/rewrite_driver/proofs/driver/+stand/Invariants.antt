use Rattle.std.proofs.Common.{take}
use Rattle.rewrite_driver.proofs.driver.+stand.Given as goal
use Rattle.rewrite_driver.specs.KeptClosed.{SubsStandClosed, SubsTracedClosed}

abbrev pub invariant-stand_subs-loop-sub : goal.invariant-stand_subs-loop-sub
invariant-stand_subs-loop-sub l = SubsStandClosed (take l.sub-index l.subs) l.others

abbrev pub invariant-rewritten_subs-loop-sub : goal.invariant-rewritten_subs-loop-sub
invariant-rewritten_subs-loop-sub l = SubsTracedClosed (take l.sub-index l.subs) l.rewritings
