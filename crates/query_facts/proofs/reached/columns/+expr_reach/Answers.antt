use Rattle.std.proofs.Common.{refl, sym, ap, ◌∙◌, arith}
use Rattle.bag_algebra.specs.declared.expr.Expr.{Expr}
use Rattle.query_facts.specs.reached.built.Reach.{all_parts_reach, all_steps_reach, all_arms_reach, step_reach, arm_reach, reach-Op, reach-Chain, reach-Case, reach-IsNull, reach-IsTruth, reach-Same}
use Rattle.query_facts.specs.reached.InUsize.{in_usize}
use Rattle.query_facts.specs.reached.Reach.{expr_reach}
use Rattle.query_facts.proofs.Greatest.{one-more, all-done}
use Rattle.query_facts.proofs.reached.columns.+expr_reach.Goals as goal

pub expr_reach-returns-in-Op : goal.expr_reach-returns-in-Op
expr_reach-returns-in-Op t c = λ n h.
    (c.parts_reach.ensures n h ∙ ap (λ l. in_usize (all_parts_reach l n)) c.as_slice.ensures)
    ∙ ap in_usize (sym (ap (λ e. expr_reach e n) c.in-Op.is ∙ reach-Op n c.in-Op.op c.in-Op.parts))

pub expr_reach-returns-in-Chain : goal.expr_reach-returns-in-Chain
expr_reach-returns-in-Chain t c = λ n h.
    c.further.ensures (expr_reach c.in-Chain.first n) (all_steps_reach c.in-Chain.steps n)
    (c.expr_reach.ensures n h ∙ ap (λ e. in_usize (expr_reach e n)) c.get.ensures)
    (c.steps_reach.ensures n h ∙ ap (λ l. in_usize (all_steps_reach l n)) c.as_slice-in-Chain.ensures)
    ∙ ap in_usize (sym (ap (λ e. expr_reach e n) c.in-Chain.is ∙ reach-Chain n c.in-Chain.first c.in-Chain.steps))

pub expr_reach-returns-in-Case : goal.expr_reach-returns-in-Case
expr_reach-returns-in-Case t c = λ n h.
    c.further-in-Case.ensures (all_arms_reach c.in-Case.arms n) (expr_reach c.in-Case.otherwise n)
    (c.arms_reach.ensures n h ∙ ap (λ l. in_usize (all_arms_reach l n)) c.as_slice-in-Case.ensures)
    (c.expr_reach-in-Case.ensures n h ∙ ap (λ e. in_usize (expr_reach e n)) c.get-in-Case.ensures)
    ∙ ap in_usize (sym (ap (λ e. expr_reach e n) c.in-Case.is ∙ reach-Case n c.in-Case.arms c.in-Case.otherwise))

pub expr_reach-returns-in-IsNull : goal.expr_reach-returns-in-IsNull
expr_reach-returns-in-IsNull t c = λ n h.
    (c.expr_reach-in-IsNull.ensures n h ∙ ap (λ e. in_usize (expr_reach e n)) c.get-in-IsNull.ensures)
    ∙ ap in_usize (sym (ap (λ e. expr_reach e n) c.in-IsNull.is ∙ reach-IsNull n c.in-IsNull.part))

pub expr_reach-returns-in-IsTruth : goal.expr_reach-returns-in-IsTruth
expr_reach-returns-in-IsTruth t c = λ n h.
    (c.expr_reach-in-IsTruth.ensures n h ∙ ap (λ e. in_usize (expr_reach e n)) c.get-in-IsTruth.ensures)
    ∙ ap in_usize (sym (ap (λ e. expr_reach e n) c.in-IsTruth.is ∙ reach-IsTruth n c.in-IsTruth.truth c.in-IsTruth.part))

pub expr_reach-returns-in-Same : goal.expr_reach-returns-in-Same
expr_reach-returns-in-Same t c = λ n h.
    c.further-in-Same.ensures (expr_reach c.in-Same.first n) (expr_reach c.in-Same.second n)
    (c.expr_reach-in-Same.ensures n h ∙ ap (λ e. in_usize (expr_reach e n)) c.get-in-Same.ensures)
    (c.expr_reach-in-Same-2.ensures n h ∙ ap (λ e. in_usize (expr_reach e n)) c.get-in-Same-2.ensures)
    ∙ ap in_usize (sym (ap (λ e. expr_reach e n) c.in-Same.is ∙ reach-Same n c.in-Same.first c.in-Same.second))

pub parts_reach-loop-part-init : goal.parts_reach-loop-part-init
parts_reach-loop-part-init t c = λ n h. refl

pub parts_reach-loop-part-preserved : goal.parts_reach-loop-part-preserved
parts_reach-loop-part-preserved t c =
    one-more (λ n (part : Expr). expr_reach part n) c.args.parts.now c.args.level c.loop-part.part-index c.loop-part.reach c.loop-part.invariant c.part-item.result c.expr_reach.result c.further-reach.result
    c.loop-part-test.true c.part-item.is c.expr_reach.ensures c.further-reach.ensures

pub parts_reach-returns : goal.parts_reach-returns
parts_reach-returns t c =
    all-done (λ n (part : Expr). expr_reach part n) c.args.parts.now c.args.level c.loop-part.part-index c.loop-part.reach c.loop-part.invariant (omega arith)

pub steps_reach-loop-step-init : goal.steps_reach-loop-step-init
steps_reach-loop-step-init t c = λ n h. refl

pub steps_reach-loop-step-preserved : goal.steps_reach-loop-step-preserved
steps_reach-loop-step-preserved t c =
    one-more step_reach c.args.steps.now c.args.level c.loop-step.step-index c.loop-step.reach c.loop-step.invariant c.step-item.result c.expr_reach.result c.further-reach.result
    c.loop-step-test.true c.step-item.is c.expr_reach.ensures c.further-reach.ensures

pub steps_reach-returns : goal.steps_reach-returns
steps_reach-returns t c = all-done step_reach c.args.steps.now c.args.level c.loop-step.step-index c.loop-step.reach c.loop-step.invariant (omega arith)

pub arms_reach-loop-arm-init : goal.arms_reach-loop-arm-init
arms_reach-loop-arm-init t c = λ n h. refl

pub arms_reach-loop-arm-preserved : goal.arms_reach-loop-arm-preserved
arms_reach-loop-arm-preserved t c =
    one-more arm_reach c.args.arms.now c.args.level c.loop-arm.arm-index c.loop-arm.reach c.loop-arm.invariant c.arm-item.result c.further-own.result c.further-reach.result
    c.loop-arm-test.true c.arm-item.is
    (λ n h. c.further-own.ensures (expr_reach c.arm-item.result.condition n) (expr_reach c.arm-item.result.value n) (c.expr_reach.ensures n h) (c.expr_reach-in-loop-arm.ensures n h))
    c.further-reach.ensures

pub arms_reach-returns : goal.arms_reach-returns
arms_reach-returns t c = all-done arm_reach c.args.arms.now c.args.level c.loop-arm.arm-index c.loop-arm.reach c.loop-arm.invariant (omega arith)
