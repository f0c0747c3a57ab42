use Rattle.std.proofs.Common.{◌≡◌, true, take}
use Rattle.folded_literals.specs.Rebuilt.{SameParts, SameSteps, SameArms}
use Rattle.folded_literals.specs.built.Settled.{all_settled, all_steps_settled, all_arms_settled}
use Rattle.folded_literals.proofs.folding.+folded.Given as goal

abbrev pub invariant-folded_parts-loop-part : goal.invariant-folded_parts-loop-part
invariant-folded_parts-loop-part l = record { same : SameParts (take l.part-index l.parts) l.made; settled : all_settled l.made ≡ true }

abbrev pub invariant-folded_steps-loop-step : goal.invariant-folded_steps-loop-step
invariant-folded_steps-loop-step l = record { same : SameSteps (take l.step-index l.steps) l.made; settled : all_steps_settled l.made ≡ true }

abbrev pub invariant-folded_arms-loop-arm : goal.invariant-folded_arms-loop-arm
invariant-folded_arms-loop-arm l = record { same : SameArms (take l.arm-index l.arms) l.made; settled : all_arms_settled l.made ≡ true }
