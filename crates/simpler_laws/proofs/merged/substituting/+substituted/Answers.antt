use Rattle.std.proofs.Common.{sym, subst}
use Rattle.perm_values.proofs.Taken.{opened}
use Rattle.bag_algebra.specs.declared.expr.Expr.TheVariants.{Op, Chain, Case, IsNull, IsTruth, Same}
use Rattle.contribution.proofs.MovedVariants.{along-next}
use Rattle.simpler_laws.proofs.SubstitutedVariants.{substituted-Op, substituted-Chain, substituted-Case, substituted-IsNull, substituted-IsTruth, substituted-Same}
use Rattle.simpler_laws.specs.merged.Substituted.{IsSubstituted, PartsSubstituted, StepsSubstituted, ArmsSubstituted, StepSubstituted, ArmSubstituted}
use Rattle.simpler_laws.proofs.merged.substituting.+substituted.Goals as goal

pub substituted-returns-in_ok-substituted_parts-in-Op : goal.substituted-returns-in_ok-substituted_parts-in-Op
substituted-returns-in_ok-substituted_parts-in-Op t c =
    subst (λ e. IsSubstituted c.args.lower.now e (Op c.in-Op.op c.in_ok-substituted_parts-in-Op.field-0)) (sym c.in-Op.is)
    (substituted-Op c.args.lower.now c.in-Op.op c.in-Op.parts c.in_ok-substituted_parts-in-Op.field-0
    (subst (λ es. PartsSubstituted c.args.lower.now es c.in_ok-substituted_parts-in-Op.field-0) c.as_slice.ensures c.in_ok-substituted_parts-in-Op.ensures))

pub substituted-returns-in_ok-first-in-Chain : goal.substituted-returns-in_ok-first-in-Chain
substituted-returns-in_ok-first-in-Chain t c =
    subst (λ e. IsSubstituted c.args.lower.now e (Chain c.in_ok-first-in-Chain.first c.in_ok-first-in-Chain.steps)) (sym c.in-Chain.is)
    (substituted-Chain c.args.lower.now c.in-Chain.first c.in_ok-first-in-Chain.first c.in-Chain.steps c.in_ok-first-in-Chain.steps
    (opened (IsSubstituted c.args.lower.now c.in-Chain.first) c.substituted_boxed.result _ c.in_ok-first-in-Chain.ensures.first_was c.substituted_boxed.ensures)
    (subst (λ es. StepsSubstituted c.args.lower.now es c.in_ok-first-in-Chain.steps) c.as_slice-in-Chain.ensures
    (opened (StepsSubstituted c.args.lower.now c.as_slice-in-Chain.result.now) c.substituted_steps.result _ c.in_ok-first-in-Chain.ensures.second_was c.substituted_steps.ensures)))

pub substituted-returns-in_ok-arms-in-Case : goal.substituted-returns-in_ok-arms-in-Case
substituted-returns-in_ok-arms-in-Case t c =
    subst (λ e. IsSubstituted c.args.lower.now e (Case c.in_ok-arms-in-Case.arms c.in_ok-arms-in-Case.otherwise)) (sym c.in-Case.is)
    (substituted-Case c.args.lower.now c.in-Case.arms c.in_ok-arms-in-Case.arms c.in-Case.otherwise c.in_ok-arms-in-Case.otherwise
    (subst (λ es. ArmsSubstituted c.args.lower.now es c.in_ok-arms-in-Case.arms) c.as_slice-in-Case.ensures
    (opened (ArmsSubstituted c.args.lower.now c.as_slice-in-Case.result.now) c.substituted_arms.result _ c.in_ok-arms-in-Case.ensures.first_was c.substituted_arms.ensures))
    (opened (IsSubstituted c.args.lower.now c.in-Case.otherwise) c.substituted_boxed-in-Case.result _ c.in_ok-arms-in-Case.ensures.second_was c.substituted_boxed-in-Case.ensures))

pub substituted-returns-in_ok-substituted_boxed-in-IsNull : goal.substituted-returns-in_ok-substituted_boxed-in-IsNull
substituted-returns-in_ok-substituted_boxed-in-IsNull t c =
    subst (λ e. IsSubstituted c.args.lower.now e (IsNull c.in_ok-substituted_boxed-in-IsNull.field-0)) (sym c.in-IsNull.is)
    (substituted-IsNull c.args.lower.now c.in-IsNull.part c.in_ok-substituted_boxed-in-IsNull.field-0 c.in_ok-substituted_boxed-in-IsNull.ensures)

pub substituted-returns-in_ok-substituted_boxed-in-IsTruth : goal.substituted-returns-in_ok-substituted_boxed-in-IsTruth
substituted-returns-in_ok-substituted_boxed-in-IsTruth t c =
    subst (λ e. IsSubstituted c.args.lower.now e (IsTruth c.in-IsTruth.truth c.in_ok-substituted_boxed-in-IsTruth.field-0)) (sym c.in-IsTruth.is)
    (substituted-IsTruth c.args.lower.now c.in-IsTruth.truth c.in-IsTruth.part c.in_ok-substituted_boxed-in-IsTruth.field-0 c.in_ok-substituted_boxed-in-IsTruth.ensures)

pub substituted-returns-in_ok-first-in-Same : goal.substituted-returns-in_ok-first-in-Same
substituted-returns-in_ok-first-in-Same t c =
    subst (λ e. IsSubstituted c.args.lower.now e (Same c.in_ok-first-in-Same.first c.in_ok-first-in-Same.second)) (sym c.in-Same.is)
    (substituted-Same c.args.lower.now c.in-Same.first c.in-Same.second c.in_ok-first-in-Same.first c.in_ok-first-in-Same.second
    (opened (IsSubstituted c.args.lower.now c.in-Same.first) c.substituted_boxed-in-Same.result _ c.in_ok-first-in-Same.ensures.first_was c.substituted_boxed-in-Same.ensures)
    (opened (IsSubstituted c.args.lower.now c.in-Same.second) c.substituted_boxed-in-Same-2.result _ c.in_ok-first-in-Same.ensures.second_was c.substituted_boxed-in-Same-2.ensures))

pub substituted_parts-loop-part-preserved : goal.substituted_parts-loop-part-preserved
substituted_parts-loop-part-preserved t c =
    along-next (IsSubstituted c.args.lower.now) c.args.parts.now c.loop-part.made c.push.new.self c.loop-part.part-index c.part-item.result c.in_ok-substituted.field-0
    c.loop-part-test.true c.part-item.is c.loop-part.invariant c.in_ok-substituted.ensures c.in_ok-push.ensures.ok

pub substituted_steps-loop-step-preserved : goal.substituted_steps-loop-step-preserved
substituted_steps-loop-step-preserved t c =
    along-next (StepSubstituted c.args.lower.now) c.args.steps.now c.loop-step.made c.push.new.self c.loop-step.step-index c.step-item.result
    (record { op = c.step-item.result.op; part = c.in_ok-part.part })
    c.loop-step-test.true c.step-item.is c.loop-step.invariant (record { op = λ i. c.step-item.result.op; part = c.in_ok-part.ensures }) c.in_ok-push.ensures.ok

pub substituted_arms-loop-arm-preserved : goal.substituted_arms-loop-arm-preserved
substituted_arms-loop-arm-preserved t c =
    along-next (ArmSubstituted c.args.lower.now) c.args.arms.now c.loop-arm.made c.push.new.self c.loop-arm.arm-index c.arm-item.result
    (record { condition = c.in_ok-condition.condition; value = c.in_ok-condition.value })
    c.loop-arm-test.true c.arm-item.is c.loop-arm.invariant
    (record {
      condition = opened (IsSubstituted c.args.lower.now c.arm-item.result.condition) c.substituted.result _ c.in_ok-condition.ensures.first_was c.substituted.ensures;
      value = opened (IsSubstituted c.args.lower.now c.arm-item.result.value) c.substituted-in-loop-arm.result _ c.in_ok-condition.ensures.second_was c.substituted-in-loop-arm.ensures;
    })
    c.in_ok-push.ensures.ok
