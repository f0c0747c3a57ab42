use Rattle.std.proofs.Common.{take}
use Rattle.contribution.specs.MovedColumns.{PartsMoved, StepsMoved, ArmsMoved}
use Rattle.contribution.proofs.parts.moving.+moved.Given as goal

abbrev pub invariant-moved_parts-loop-part : goal.invariant-moved_parts-loop-part
invariant-moved_parts-loop-part l = PartsMoved l.order (take l.part-index l.parts) l.made

abbrev pub invariant-moved_steps-loop-step : goal.invariant-moved_steps-loop-step
invariant-moved_steps-loop-step l = StepsMoved l.order (take l.step-index l.steps) l.made

abbrev pub invariant-moved_arms-loop-arm : goal.invariant-moved_arms-loop-arm
invariant-moved_arms-loop-arm l = ArmsMoved l.order (take l.arm-index l.arms) l.made
