use Rattle.std.proofs.Common.{take}
use Rattle.simpler_laws.specs.merged.Substituted.{PartsSubstituted, StepsSubstituted, ArmsSubstituted}
use Rattle.simpler_laws.proofs.merged.substituting.+substituted.Given as goal

abbrev pub invariant-substituted_parts-loop-part : goal.invariant-substituted_parts-loop-part
invariant-substituted_parts-loop-part l = PartsSubstituted l.lower (take l.part-index l.parts) l.made

abbrev pub invariant-substituted_steps-loop-step : goal.invariant-substituted_steps-loop-step
invariant-substituted_steps-loop-step l = StepsSubstituted l.lower (take l.step-index l.steps) l.made

abbrev pub invariant-substituted_arms-loop-arm : goal.invariant-substituted_arms-loop-arm
invariant-substituted_arms-loop-arm l = ArmsSubstituted l.lower (take l.arm-index l.arms) l.made
