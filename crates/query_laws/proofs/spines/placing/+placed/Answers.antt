use Rattle.std.proofs.Common.{sym, subst}
use Rattle.perm_values.proofs.Taken.{opened}
use Rattle.bag_algebra.specs.declared.expr.Expr.TheVariants.{Op, Chain, Case, IsNull, IsTruth, Same}
use Rattle.contribution.proofs.MovedVariants.{along-next}
use Rattle.query_laws.proofs.PlacedVariants.{placed-Op, placed-Chain, placed-Case, placed-IsNull, placed-IsTruth, placed-Same}
use Rattle.query_laws.specs.spines.PlacedColumns.{IsPlaced, PartsPlaced, StepsPlaced, ArmsPlaced, StepPlaced, ArmPlaced}
use Rattle.query_laws.proofs.spines.placing.+placed.Goals as goal

pub placed-returns-in_ok-placed_parts-in-Op : goal.placed-returns-in_ok-placed_parts-in-Op
placed-returns-in_ok-placed_parts-in-Op t c =
    subst (λ e. IsPlaced c.args.items.now e (Op c.in-Op.op c.in_ok-placed_parts-in-Op.field-0)) (sym c.in-Op.is)
    (placed-Op c.args.items.now c.in-Op.op c.in-Op.parts c.in_ok-placed_parts-in-Op.field-0
    (subst (λ es. PartsPlaced c.args.items.now es c.in_ok-placed_parts-in-Op.field-0) c.as_slice.ensures c.in_ok-placed_parts-in-Op.ensures))

pub placed-returns-in_ok-first-in-Chain : goal.placed-returns-in_ok-first-in-Chain
placed-returns-in_ok-first-in-Chain t c =
    subst (λ e. IsPlaced c.args.items.now e (Chain c.in_ok-first-in-Chain.first c.in_ok-first-in-Chain.steps)) (sym c.in-Chain.is)
    (placed-Chain c.args.items.now c.in-Chain.first c.in_ok-first-in-Chain.first c.in-Chain.steps c.in_ok-first-in-Chain.steps
    (opened (IsPlaced c.args.items.now c.in-Chain.first) c.placed_boxed.result _ c.in_ok-first-in-Chain.ensures.first_was c.placed_boxed.ensures)
    (subst (λ es. StepsPlaced c.args.items.now es c.in_ok-first-in-Chain.steps) c.as_slice-in-Chain.ensures
    (opened (StepsPlaced c.args.items.now c.as_slice-in-Chain.result.now) c.placed_steps.result _ c.in_ok-first-in-Chain.ensures.second_was c.placed_steps.ensures)))

pub placed-returns-in_ok-arms-in-Case : goal.placed-returns-in_ok-arms-in-Case
placed-returns-in_ok-arms-in-Case t c =
    subst (λ e. IsPlaced c.args.items.now e (Case c.in_ok-arms-in-Case.arms c.in_ok-arms-in-Case.otherwise)) (sym c.in-Case.is)
    (placed-Case c.args.items.now c.in-Case.arms c.in_ok-arms-in-Case.arms c.in-Case.otherwise c.in_ok-arms-in-Case.otherwise
    (subst (λ es. ArmsPlaced c.args.items.now es c.in_ok-arms-in-Case.arms) c.as_slice-in-Case.ensures
    (opened (ArmsPlaced c.args.items.now c.as_slice-in-Case.result.now) c.placed_arms.result _ c.in_ok-arms-in-Case.ensures.first_was c.placed_arms.ensures))
    (opened (IsPlaced c.args.items.now c.in-Case.otherwise) c.placed_boxed-in-Case.result _ c.in_ok-arms-in-Case.ensures.second_was c.placed_boxed-in-Case.ensures))

pub placed-returns-in_ok-placed_boxed-in-IsNull : goal.placed-returns-in_ok-placed_boxed-in-IsNull
placed-returns-in_ok-placed_boxed-in-IsNull t c =
    subst (λ e. IsPlaced c.args.items.now e (IsNull c.in_ok-placed_boxed-in-IsNull.field-0)) (sym c.in-IsNull.is)
    (placed-IsNull c.args.items.now c.in-IsNull.part c.in_ok-placed_boxed-in-IsNull.field-0 c.in_ok-placed_boxed-in-IsNull.ensures)

pub placed-returns-in_ok-placed_boxed-in-IsTruth : goal.placed-returns-in_ok-placed_boxed-in-IsTruth
placed-returns-in_ok-placed_boxed-in-IsTruth t c =
    subst (λ e. IsPlaced c.args.items.now e (IsTruth c.in-IsTruth.truth c.in_ok-placed_boxed-in-IsTruth.field-0)) (sym c.in-IsTruth.is)
    (placed-IsTruth c.args.items.now c.in-IsTruth.truth c.in-IsTruth.part c.in_ok-placed_boxed-in-IsTruth.field-0 c.in_ok-placed_boxed-in-IsTruth.ensures)

pub placed-returns-in_ok-first-in-Same : goal.placed-returns-in_ok-first-in-Same
placed-returns-in_ok-first-in-Same t c =
    subst (λ e. IsPlaced c.args.items.now e (Same c.in_ok-first-in-Same.first c.in_ok-first-in-Same.second)) (sym c.in-Same.is)
    (placed-Same c.args.items.now c.in-Same.first c.in-Same.second c.in_ok-first-in-Same.first c.in_ok-first-in-Same.second
    (opened (IsPlaced c.args.items.now c.in-Same.first) c.placed_boxed-in-Same.result _ c.in_ok-first-in-Same.ensures.first_was c.placed_boxed-in-Same.ensures)
    (opened (IsPlaced c.args.items.now c.in-Same.second) c.placed_boxed-in-Same-2.result _ c.in_ok-first-in-Same.ensures.second_was c.placed_boxed-in-Same-2.ensures))

pub placed_parts-loop-part-preserved : goal.placed_parts-loop-part-preserved
placed_parts-loop-part-preserved t c =
    along-next (IsPlaced c.args.items.now) c.args.parts.now c.loop-part.made c.push.new.self c.loop-part.part-index c.part-item.result c.in_ok-placed.field-0
    c.loop-part-test.true c.part-item.is c.loop-part.invariant c.in_ok-placed.ensures c.in_ok-push.ensures.ok

pub placed_steps-loop-step-preserved : goal.placed_steps-loop-step-preserved
placed_steps-loop-step-preserved t c =
    along-next (StepPlaced c.args.items.now) c.args.steps.now c.loop-step.made c.push.new.self c.loop-step.step-index c.step-item.result
    (record { op = c.step-item.result.op; part = c.in_ok-part.part })
    c.loop-step-test.true c.step-item.is c.loop-step.invariant (record { op = λ i. c.step-item.result.op; part = c.in_ok-part.ensures }) c.in_ok-push.ensures.ok

pub placed_arms-loop-arm-preserved : goal.placed_arms-loop-arm-preserved
placed_arms-loop-arm-preserved t c =
    along-next (ArmPlaced c.args.items.now) c.args.arms.now c.loop-arm.made c.push.new.self c.loop-arm.arm-index c.arm-item.result
    (record { condition = c.in_ok-condition.condition; value = c.in_ok-condition.value })
    c.loop-arm-test.true c.arm-item.is c.loop-arm.invariant
    (record {
      condition = opened (IsPlaced c.args.items.now c.arm-item.result.condition) c.placed.result _ c.in_ok-condition.ensures.first_was c.placed.ensures;
      value = opened (IsPlaced c.args.items.now c.arm-item.result.value) c.placed-in-loop-arm.result _ c.in_ok-condition.ensures.second_was c.placed-in-loop-arm.ensures;
    })
    c.in_ok-push.ensures.ok
