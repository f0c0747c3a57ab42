use Rattle.std.proofs.Common.{◌≡◌, drop}
use Rattle.tree_texts.specs.expressions.Used.{all_parts_use, all_steps_use, all_arms_use}
use Rattle.tree_texts.proofs.expressions.usage.+uses.Given as goal

-- the parts that are left decide
abbrev pub invariant-parts_use-loop-part : goal.invariant-parts_use-loop-part
invariant-parts_use-loop-part l = all_parts_use l.number l.parts ≡ all_parts_use l.number (drop l.part-index l.parts)

abbrev pub invariant-steps_use-loop-step : goal.invariant-steps_use-loop-step
invariant-steps_use-loop-step l = all_steps_use l.number l.steps ≡ all_steps_use l.number (drop l.step-index l.steps)

abbrev pub invariant-arms_use-loop-arm : goal.invariant-arms_use-loop-arm
invariant-arms_use-loop-arm l = all_arms_use l.number l.arms ≡ all_arms_use l.number (drop l.arm-index l.arms)
