use Rattle.std.proofs.Common.{sym, subst}
use Rattle.std.specs.List.{AllByRecursion}
use Rattle.sql_printer.specs.rows.Writable.{Writable}
use Rattle.sql_printer.specs.forms.Printable.{WritableArm, WritableStep}
use Rattle.sql_printer.proofs.forms.OpenedExpressions.{owed-here, writable-Case, writable-Chain, writable-IsNull, writable-IsTruth, writable-Op, writable-Same}
use Rattle.sql_printer.proofs.forms.seen.+see.Goals as goal

pub see-returns-in-Op : goal.see-returns-in-Op
see-returns-in-Op t c =
    subst Writable (sym c.in-Op.is) (writable-Op c.in-Op.op c.in-Op.parts (subst (AllByRecursion Writable) c.as_slice.ensures c.see_parts.ensures))

pub see-returns-in-Chain : goal.see-returns-in-Chain
see-returns-in-Chain t c =
    subst Writable (sym c.in-Chain.is)
    (writable-Chain c.in-Chain.first c.in-Chain.steps (subst Writable c.get.ensures c.see.ensures)
    (subst (AllByRecursion WritableStep) c.as_slice-in-Chain.ensures c.see_steps.ensures))

pub see-returns-in-Case : goal.see-returns-in-Case
see-returns-in-Case t c =
    subst Writable (sym c.in-Case.is)
    (writable-Case c.in-Case.arms c.in-Case.otherwise (subst (AllByRecursion WritableArm) c.as_slice-in-Case.ensures c.see_arms.ensures)
    (subst Writable c.get-in-Case.ensures c.see-in-Case.ensures))

pub see-returns-in-IsNull : goal.see-returns-in-IsNull
see-returns-in-IsNull t c =
    subst Writable (sym c.in-IsNull.is) (writable-IsNull c.in-IsNull.part (subst Writable c.get-in-IsNull.ensures c.see-in-IsNull.ensures))

pub see-returns-in-IsTruth : goal.see-returns-in-IsTruth
see-returns-in-IsTruth t c =
    subst Writable (sym c.in-IsTruth.is)
    (writable-IsTruth c.in-IsTruth.truth c.in-IsTruth.part (subst Writable c.get-in-IsTruth.ensures c.see-in-IsTruth.ensures))

pub see-returns-in-Same : goal.see-returns-in-Same
see-returns-in-Same t c =
    subst Writable (sym c.in-Same.is)
    (writable-Same c.in-Same.first c.in-Same.second (subst Writable c.get-in-Same.ensures c.see-in-Same.ensures)
    (subst Writable c.get-in-Same-2.ensures c.see-in-Same-2.ensures))

pub see_parts-loop-part-preserved : goal.see_parts-loop-part-preserved
see_parts-loop-part-preserved t c = λ rest.
    owed-here (AllByRecursion Writable) c.args.parts.now c.loop-part.part-index c.part-item.result c.loop-part-test.true c.part-item.is
    c.loop-part.invariant (c.see.ensures, rest)

pub see_steps-loop-step-preserved : goal.see_steps-loop-step-preserved
see_steps-loop-step-preserved t c = λ rest.
    owed-here (AllByRecursion WritableStep) c.args.steps.now c.loop-step.step-index c.step-item.result c.loop-step-test.true c.step-item.is
    c.loop-step.invariant (c.see.ensures, rest)

pub see_arms-loop-arm-preserved : goal.see_arms-loop-arm-preserved
see_arms-loop-arm-preserved t c = λ rest.
    owed-here (AllByRecursion WritableArm) c.args.arms.now c.loop-arm.arm-index c.arm-item.result c.loop-arm-test.true c.arm-item.is
    c.loop-arm.invariant ((c.see.ensures, c.see-in-loop-arm.ensures), rest)
