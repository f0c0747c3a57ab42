use Rattle.std.proofs.Common.{drop}
use Rattle.std.specs.List.{AllByRecursion}
use Rattle.sql_printer.specs.rows.Writable.{Writable}
use Rattle.sql_printer.specs.forms.Printable.{WritableArm, WritableStep}
use Rattle.sql_printer.proofs.forms.seen.+see.Given as goal

-- all can be written where those that are left can
abbrev pub invariant-see_parts-loop-part : goal.invariant-see_parts-loop-part
invariant-see_parts-loop-part l = AllByRecursion Writable (drop l.part-index l.parts) → AllByRecursion Writable l.parts

abbrev pub invariant-see_steps-loop-step : goal.invariant-see_steps-loop-step
invariant-see_steps-loop-step l = AllByRecursion WritableStep (drop l.step-index l.steps) → AllByRecursion WritableStep l.steps

abbrev pub invariant-see_arms-loop-arm : goal.invariant-see_arms-loop-arm
invariant-see_arms-loop-arm l = AllByRecursion WritableArm (drop l.arm-index l.arms) → AllByRecursion WritableArm l.arms
