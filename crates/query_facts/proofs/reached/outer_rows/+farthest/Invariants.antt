use Rattle.std.proofs.Common.{◌&&◌}
use Rattle.bag_algebra.specs.Closed.{within_levels}
use Rattle.bag_algebra.specs.declared.expr.Arm.{Arm}
use Rattle.bag_algebra.specs.declared.expr.ChainStep.{ChainStep}
use Rattle.bag_algebra.proofs.Levels.{SoFar}
use Rattle.query_facts.proofs.reached.outer_rows.+farthest.Given as goal

abbrev pub invariant-farthest_of_parts-loop-part : goal.invariant-farthest_of_parts-loop-part
invariant-farthest_of_parts-loop-part l = SoFar within_levels l.parts l.part-index l.level

abbrev pub invariant-farthest_of_steps-loop-step : goal.invariant-farthest_of_steps-loop-step
invariant-farthest_of_steps-loop-step l = SoFar (λ (step : ChainStep) n. within_levels step.part n) l.steps l.step-index l.level

abbrev pub invariant-farthest_of_arms-loop-arm : goal.invariant-farthest_of_arms-loop-arm
invariant-farthest_of_arms-loop-arm l = SoFar (λ (arm : Arm) n. within_levels arm.condition n && within_levels arm.value n) l.arms l.arm-index l.level
