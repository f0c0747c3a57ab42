use Rattle.std.proofs.Common.{◌&&◌, sym, ap, ◌∙◌, arith}
use Rattle.query_facts.specs.reached.built.Closed.{all_parts_within, all_steps_within, all_arms_within, within-Op, within-Chain, within-Case, within-IsNull, within-IsTruth, within-Same}
use Rattle.bag_algebra.specs.Closed.{within_levels}
use Rattle.bag_algebra.specs.declared.expr.Arm.{Arm}
use Rattle.bag_algebra.specs.declared.expr.ChainStep.{ChainStep}
use Rattle.bag_algebra.proofs.Levels.{both-within, from_none, one-more, all-done}
use Rattle.query_facts.proofs.reached.outer_rows.+farthest.Goals as goal

pub farthest-returns-in-Op : goal.farthest-returns-in-Op
farthest-returns-in-Op t c = λ n.
    (c.farthest_of_parts.ensures n ∙ ap (λ l. all_parts_within l n) c.as_slice.ensures) ∙ sym (ap (λ e. within_levels e n) c.in-Op.is ∙ within-Op n c.in-Op.op c.in-Op.parts)

pub farthest-returns-in-Chain : goal.farthest-returns-in-Chain
farthest-returns-in-Chain t c = λ n.
    both-within _ _ _ _ _ n c.max.ensures (c.farthest.ensures n ∙ ap (λ e. within_levels e n) c.get.ensures) (c.farthest_of_steps.ensures n ∙ ap (λ l. all_steps_within l n) c.as_slice-in-Chain.ensures)
    ∙ sym (ap (λ e. within_levels e n) c.in-Chain.is ∙ within-Chain n c.in-Chain.first c.in-Chain.steps)

pub farthest-returns-in-Case : goal.farthest-returns-in-Case
farthest-returns-in-Case t c = λ n.
    both-within _ _ _ _ _ n c.max-in-Case.ensures (c.farthest_of_arms.ensures n ∙ ap (λ l. all_arms_within l n) c.as_slice-in-Case.ensures) (c.farthest-in-Case.ensures n ∙ ap (λ e. within_levels e n) c.get-in-Case.ensures)
    ∙ sym (ap (λ e. within_levels e n) c.in-Case.is ∙ within-Case n c.in-Case.arms c.in-Case.otherwise)

pub farthest-returns-in-IsNull : goal.farthest-returns-in-IsNull
farthest-returns-in-IsNull t c = λ n.
    (c.farthest-in-IsNull.ensures n ∙ ap (λ e. within_levels e n) c.get-in-IsNull.ensures) ∙ sym (ap (λ e. within_levels e n) c.in-IsNull.is ∙ within-IsNull n c.in-IsNull.part)

pub farthest-returns-in-IsTruth : goal.farthest-returns-in-IsTruth
farthest-returns-in-IsTruth t c = λ n.
    (c.farthest-in-IsTruth.ensures n ∙ ap (λ e. within_levels e n) c.get-in-IsTruth.ensures) ∙ sym (ap (λ e. within_levels e n) c.in-IsTruth.is ∙ within-IsTruth n c.in-IsTruth.truth c.in-IsTruth.part)

pub farthest-returns-in-Same : goal.farthest-returns-in-Same
farthest-returns-in-Same t c = λ n.
    both-within _ _ _ _ _ n c.max-in-Same.ensures (c.farthest-in-Same.ensures n ∙ ap (λ e. within_levels e n) c.get-in-Same.ensures) (c.farthest-in-Same-2.ensures n ∙ ap (λ e. within_levels e n) c.get-in-Same-2.ensures)
    ∙ sym (ap (λ e. within_levels e n) c.in-Same.is ∙ within-Same n c.in-Same.first c.in-Same.second)

pub farthest_of_parts-loop-part-init : goal.farthest_of_parts-loop-part-init
farthest_of_parts-loop-part-init t c = from_none within_levels c.args.parts.now

pub farthest_of_parts-loop-part-preserved : goal.farthest_of_parts-loop-part-preserved
farthest_of_parts-loop-part-preserved t c =
    one-more within_levels c.args.parts.now c.loop-part.part-index c.loop-part.level c.loop-part.invariant c.part-item.result c.farthest.result _
    c.loop-part-test.true c.part-item.is c.farthest.ensures c.max-level.ensures

pub farthest_of_parts-returns : goal.farthest_of_parts-returns
farthest_of_parts-returns t c = all-done within_levels c.args.parts.now c.loop-part.part-index c.loop-part.level c.loop-part.invariant (omega arith)

pub farthest_of_steps-loop-step-init : goal.farthest_of_steps-loop-step-init
farthest_of_steps-loop-step-init t c = from_none (λ (step : ChainStep) n. within_levels step.part n) c.args.steps.now

pub farthest_of_steps-loop-step-preserved : goal.farthest_of_steps-loop-step-preserved
farthest_of_steps-loop-step-preserved t c =
    one-more (λ (step : ChainStep) n. within_levels step.part n) c.args.steps.now c.loop-step.step-index c.loop-step.level c.loop-step.invariant c.step-item.result c.farthest.result _
    c.loop-step-test.true c.step-item.is c.farthest.ensures c.max-level.ensures

pub farthest_of_steps-returns : goal.farthest_of_steps-returns
farthest_of_steps-returns t c = all-done (λ (step : ChainStep) n. within_levels step.part n) c.args.steps.now c.loop-step.step-index c.loop-step.level c.loop-step.invariant (omega arith)

pub farthest_of_arms-loop-arm-init : goal.farthest_of_arms-loop-arm-init
farthest_of_arms-loop-arm-init t c = from_none (λ (arm : Arm) n. within_levels arm.condition n && within_levels arm.value n) c.args.arms.now

pub farthest_of_arms-loop-arm-preserved : goal.farthest_of_arms-loop-arm-preserved
farthest_of_arms-loop-arm-preserved t c =
    one-more (λ (arm : Arm) n. within_levels arm.condition n && within_levels arm.value n) c.args.arms.now c.loop-arm.arm-index c.loop-arm.level c.loop-arm.invariant c.arm-item.result c.max.result _
    c.loop-arm-test.true c.arm-item.is (λ n. both-within _ _ _ _ _ n c.max.ensures (c.farthest.ensures n) (c.farthest-in-loop-arm.ensures n)) c.max-level.ensures

pub farthest_of_arms-returns : goal.farthest_of_arms-returns
farthest_of_arms-returns t c = all-done (λ (arm : Arm) n. within_levels arm.condition n && within_levels arm.value n) c.args.arms.now c.loop-arm.arm-index c.loop-arm.level c.loop-arm.invariant (omega arith)
