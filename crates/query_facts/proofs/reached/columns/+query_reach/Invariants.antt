use Rattle.query_facts.specs.reached.built.Reach.{sub_reach}
use Rattle.query_facts.proofs.Greatest.{SoFar}
use Rattle.query_facts.proofs.reached.columns.+query_reach.Given as goal

abbrev pub invariant-subs_reach-loop-sub : goal.invariant-subs_reach-loop-sub
invariant-subs_reach-loop-sub l = SoFar sub_reach l.subs l.level l.sub-index l.reach
