use Rattle.std.proofs.Common.{◌≡◌, take}
use Rattle.bag_algebra.proofs.expr.+copy_expr.Given as goal

abbrev pub invariant-copy_parts-loop-part : goal.invariant-copy_parts-loop-part
invariant-copy_parts-loop-part l = l.copy ≡ take l.part-index l.parts

abbrev pub invariant-copy_steps-loop-step : goal.invariant-copy_steps-loop-step
invariant-copy_steps-loop-step l = l.copy ≡ take l.step-index l.steps

abbrev pub invariant-copy_arms-loop-arm : goal.invariant-copy_arms-loop-arm
invariant-copy_arms-loop-arm l = l.copy ≡ take l.arm-index l.arms
