use Rattle.std.proofs.Common.{sym, subst}
use Rattle.perm_values.proofs.Taken.{opened}
use Rattle.bag_algebra.specs.declared.expr.Expr.TheVariants.{Op, Chain, Case, IsNull, IsTruth, Same}
use Rattle.contribution.proofs.MovedVariants.{along-next, moved-Op, moved-Chain, moved-Case, moved-IsNull, moved-IsTruth, moved-Same}
use Rattle.contribution.specs.MovedColumns.{IsMoved, PartsMoved, StepsMoved, ArmsMoved, StepMoved, ArmMoved}
use Rattle.contribution.proofs.parts.moving.+moved.Goals as goal

pub moved-returns-in_ok-moved_parts-in-Op : goal.moved-returns-in_ok-moved_parts-in-Op
moved-returns-in_ok-moved_parts-in-Op t c =
    subst (λ e. IsMoved c.args.order.now e (Op c.in-Op.op c.in_ok-moved_parts-in-Op.field-0)) (sym c.in-Op.is)
    (moved-Op c.args.order.now c.in-Op.op c.in-Op.parts c.in_ok-moved_parts-in-Op.field-0
    (subst (λ es. PartsMoved c.args.order.now es c.in_ok-moved_parts-in-Op.field-0) c.as_slice.ensures c.in_ok-moved_parts-in-Op.ensures))

pub moved-returns-in_ok-first-in-Chain : goal.moved-returns-in_ok-first-in-Chain
moved-returns-in_ok-first-in-Chain t c =
    subst (λ e. IsMoved c.args.order.now e (Chain c.in_ok-first-in-Chain.first c.in_ok-first-in-Chain.steps)) (sym c.in-Chain.is)
    (moved-Chain c.args.order.now c.in-Chain.first c.in_ok-first-in-Chain.first c.in-Chain.steps c.in_ok-first-in-Chain.steps
    (opened (IsMoved c.args.order.now c.in-Chain.first) c.moved_boxed.result _ c.in_ok-first-in-Chain.ensures.first_was c.moved_boxed.ensures)
    (subst (λ es. StepsMoved c.args.order.now es c.in_ok-first-in-Chain.steps) c.as_slice-in-Chain.ensures
    (opened (StepsMoved c.args.order.now c.as_slice-in-Chain.result.now) c.moved_steps.result _ c.in_ok-first-in-Chain.ensures.second_was c.moved_steps.ensures)))

pub moved-returns-in_ok-arms-in-Case : goal.moved-returns-in_ok-arms-in-Case
moved-returns-in_ok-arms-in-Case t c =
    subst (λ e. IsMoved c.args.order.now e (Case c.in_ok-arms-in-Case.arms c.in_ok-arms-in-Case.otherwise)) (sym c.in-Case.is)
    (moved-Case c.args.order.now c.in-Case.arms c.in_ok-arms-in-Case.arms c.in-Case.otherwise c.in_ok-arms-in-Case.otherwise
    (subst (λ es. ArmsMoved c.args.order.now es c.in_ok-arms-in-Case.arms) c.as_slice-in-Case.ensures
    (opened (ArmsMoved c.args.order.now c.as_slice-in-Case.result.now) c.moved_arms.result _ c.in_ok-arms-in-Case.ensures.first_was c.moved_arms.ensures))
    (opened (IsMoved c.args.order.now c.in-Case.otherwise) c.moved_boxed-in-Case.result _ c.in_ok-arms-in-Case.ensures.second_was c.moved_boxed-in-Case.ensures))

pub moved-returns-in_ok-moved_boxed-in-IsNull : goal.moved-returns-in_ok-moved_boxed-in-IsNull
moved-returns-in_ok-moved_boxed-in-IsNull t c =
    subst (λ e. IsMoved c.args.order.now e (IsNull c.in_ok-moved_boxed-in-IsNull.field-0)) (sym c.in-IsNull.is)
    (moved-IsNull c.args.order.now c.in-IsNull.part c.in_ok-moved_boxed-in-IsNull.field-0 c.in_ok-moved_boxed-in-IsNull.ensures)

pub moved-returns-in_ok-moved_boxed-in-IsTruth : goal.moved-returns-in_ok-moved_boxed-in-IsTruth
moved-returns-in_ok-moved_boxed-in-IsTruth t c =
    subst (λ e. IsMoved c.args.order.now e (IsTruth c.in-IsTruth.truth c.in_ok-moved_boxed-in-IsTruth.field-0)) (sym c.in-IsTruth.is)
    (moved-IsTruth c.args.order.now c.in-IsTruth.truth c.in-IsTruth.part c.in_ok-moved_boxed-in-IsTruth.field-0 c.in_ok-moved_boxed-in-IsTruth.ensures)

pub moved-returns-in_ok-first-in-Same : goal.moved-returns-in_ok-first-in-Same
moved-returns-in_ok-first-in-Same t c =
    subst (λ e. IsMoved c.args.order.now e (Same c.in_ok-first-in-Same.first c.in_ok-first-in-Same.second)) (sym c.in-Same.is)
    (moved-Same c.args.order.now c.in-Same.first c.in-Same.second c.in_ok-first-in-Same.first c.in_ok-first-in-Same.second
    (opened (IsMoved c.args.order.now c.in-Same.first) c.moved_boxed-in-Same.result _ c.in_ok-first-in-Same.ensures.first_was c.moved_boxed-in-Same.ensures)
    (opened (IsMoved c.args.order.now c.in-Same.second) c.moved_boxed-in-Same-2.result _ c.in_ok-first-in-Same.ensures.second_was c.moved_boxed-in-Same-2.ensures))

pub moved_parts-loop-part-preserved : goal.moved_parts-loop-part-preserved
moved_parts-loop-part-preserved t c =
    along-next (IsMoved c.args.order.now) c.args.parts.now c.loop-part.made c.push.new.self c.loop-part.part-index c.part-item.result c.in_ok-moved.field-0
    c.loop-part-test.true c.part-item.is c.loop-part.invariant c.in_ok-moved.ensures c.in_ok-push.ensures.ok

pub moved_steps-loop-step-preserved : goal.moved_steps-loop-step-preserved
moved_steps-loop-step-preserved t c =
    along-next (StepMoved c.args.order.now) c.args.steps.now c.loop-step.made c.push.new.self c.loop-step.step-index c.step-item.result
    (record { op = c.step-item.result.op; part = c.in_ok-part.part })
    c.loop-step-test.true c.step-item.is c.loop-step.invariant (record { op = λ i. c.step-item.result.op; part = c.in_ok-part.ensures }) c.in_ok-push.ensures.ok

pub moved_arms-loop-arm-preserved : goal.moved_arms-loop-arm-preserved
moved_arms-loop-arm-preserved t c =
    along-next (ArmMoved c.args.order.now) c.args.arms.now c.loop-arm.made c.push.new.self c.loop-arm.arm-index c.arm-item.result
    (record { condition = c.in_ok-condition.condition; value = c.in_ok-condition.value })
    c.loop-arm-test.true c.arm-item.is c.loop-arm.invariant
    (record {
      condition = opened (IsMoved c.args.order.now c.arm-item.result.condition) c.moved.result _ c.in_ok-condition.ensures.first_was c.moved.ensures;
      value = opened (IsMoved c.args.order.now c.arm-item.result.value) c.moved-in-loop-arm.result _ c.in_ok-condition.ensures.second_was c.moved-in-loop-arm.ensures;
    })
    c.in_ok-push.ensures.ok
