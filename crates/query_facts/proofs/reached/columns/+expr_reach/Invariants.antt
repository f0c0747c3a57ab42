use Rattle.bag_algebra.specs.declared.expr.Expr.{Expr}
use Rattle.query_facts.specs.reached.built.Reach.{step_reach, arm_reach}
use Rattle.query_facts.specs.reached.Reach.{expr_reach}
use Rattle.query_facts.proofs.Greatest.{SoFar}
use Rattle.query_facts.proofs.reached.columns.+expr_reach.Given as goal

abbrev pub invariant-parts_reach-loop-part : goal.invariant-parts_reach-loop-part
invariant-parts_reach-loop-part l = SoFar (λ n (part : Expr). expr_reach part n) l.parts l.level l.part-index l.reach

abbrev pub invariant-steps_reach-loop-step : goal.invariant-steps_reach-loop-step
invariant-steps_reach-loop-step l = SoFar step_reach l.steps l.level l.step-index l.reach

abbrev pub invariant-arms_reach-loop-arm : goal.invariant-arms_reach-loop-arm
invariant-arms_reach-loop-arm l = SoFar arm_reach l.arms l.level l.arm-index l.reach
