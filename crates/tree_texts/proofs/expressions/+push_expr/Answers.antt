use Rattle.std.proofs.Common.{◌∙◌, List, ◌++◌, length, map, refl, ap}
use Rattle.std.specs.Prelude.{codes}
use Rattle.perm_values.proofs.Results.{when-ok}
use Rattle.bag_algebra.specs.declared.expr.Arm.{Arm}
use Rattle.bag_algebra.specs.declared.expr.ChainStep.{ChainStep}
use Rattle.bag_algebra.specs.declared.expr.Expr.{Expr}
use Rattle.tree_texts.specs.expressions.ExpressionTexts.{expr_bytes, first_level, step_text, step_text_of, steps_of, steps_text, arm_text, arm_text_of, arms_of, arms_text}
use Rattle.tree_texts.specs.expressions.Words.{chain_word, first_between, separated, unless_none}
use Rattle.tree_texts.proofs.Opened.{op_pushed, chain_pushed, case_pushed, null_test_pushed, truth_test_pushed, same_pushed}
use Rattle.tree_texts.proofs.Pieces.{laid2, laid4, rest_next, rest_end, parts_next}
use Rattle.tree_texts.proofs.expressions.+push_expr.Goals as goal

pub push_expr-returns-in-Op : goal.push_expr-returns-in-Op
push_expr-returns-in-Op t c =
    when-ok c.push_operated.result c.push_operated.ensures
    (op_pushed c.args.prefix.now c.args.subs.now c.args.draft.now c.args.expr.now c.in-Op.op c.in-Op.parts _ _ c.in-Op.is c.as_slice.ensures)

pub push_expr-returns-in_ok-push_expr-in-Chain : goal.push_expr-returns-in_ok-push_expr-in-Chain
push_expr-returns-in_ok-push_expr-in-Chain t c =
    when-ok c.push_steps.result c.push_steps.ensures
    (chain_pushed c.args.prefix.now c.args.subs.now c.args.draft.now c.args.expr.now c.in-Chain.first _ c.in-Chain.steps _ _ _ _ _ c.in-Chain.is
    c.len.ensures.value c.get.ensures c.as_slice-in-Chain.ensures c.in_ok-push_unless_none-in-Chain.ensures c.in_ok-push_expr-in-Chain.ensures)

pub push_expr-returns-in_ok-push_expr-in-Case : goal.push_expr-returns-in_ok-push_expr-in-Case
push_expr-returns-in_ok-push_expr-in-Case t c =
    when-ok c.push_unless_none-in-Case.result c.push_unless_none-in-Case.ensures
    (case_pushed c.args.prefix.now c.args.subs.now c.args.draft.now c.args.expr.now c.in-Case.arms _ c.in-Case.otherwise _ _ _ _ _ c.in-Case.is
    c.as_slice-in-Case.ensures c.get-in-Case.ensures c.len-in-Case.ensures.value c.in_ok-push_arms-in-Case.ensures c.in_ok-push_expr-in-Case.ensures)

pub push_expr-returns-in-IsNull : goal.push_expr-returns-in-IsNull
push_expr-returns-in-IsNull t c =
    when-ok c.push_null_test.result c.push_null_test.ensures
    (null_test_pushed c.args.prefix.now c.args.subs.now c.args.draft.now c.args.expr.now c.in-IsNull.part _ _ c.in-IsNull.is c.get-in-IsNull.ensures)

pub push_expr-returns-in-IsTruth : goal.push_expr-returns-in-IsTruth
push_expr-returns-in-IsTruth t c =
    when-ok c.push_truth_test.result c.push_truth_test.ensures
    (truth_test_pushed c.args.prefix.now c.args.subs.now c.args.draft.now c.args.expr.now c.in-IsTruth.truth c.in-IsTruth.part _ _ c.in-IsTruth.is
    c.get-in-IsTruth.ensures)

pub push_expr-returns-in_ok-push_expr-in-Same : goal.push_expr-returns-in_ok-push_expr-in-Same
push_expr-returns-in_ok-push_expr-in-Same t c =
    when-ok c.push_same_as.result c.push_same_as.ensures
    (same_pushed c.args.prefix.now c.args.subs.now c.args.draft.now c.args.expr.now c.in-Same.first _ c.in-Same.second _ _ _ _ c.in-Same.is
    c.get-in-Same.ensures c.get-in-Same-2.ensures c.in_ok-push-in-Same.ensures c.in_ok-push_expr-in-Same.ensures)

pub push_steps-returns : goal.push_steps-returns
push_steps-returns t c =
    let steps = c.args.steps.now in
    when-ok c.push_unless_none.result c.push_unless_none.ensures
    (laid2 c.args.draft.now _ _ (steps_text (first_level steps) (steps_of c.args.prefix.now c.args.subs.now steps)) (unless_none (length steps) (codes ") "))
    (c.in_ok-push_steps_of.ensures ∙ ap (λ level. c.args.draft.now ++ steps_text level (steps_of c.args.prefix.now c.args.subs.now steps)) c.first_level.ensures))

-- ---- loops

pub push_parts-loop-number-preserved : goal.push_parts-loop-number-preserved
push_parts-loop-number-preserved t c =
    parts_next c.first_between-second.result.now c.later_between-later.result.now (expr_bytes c.args.prefix.now c.args.subs.now) _ c.loop-number.draft _ _
    c.args.parts.now c.loop-number.number c.index-parts-number.result c.loop-number-test.true c.index-parts-number.is c.loop-number.invariant
    (rw c.separator.ensures at c.in_ok-push.ensures) c.in_ok-push_expr.ensures

pub push_parts-returns : goal.push_parts-returns
push_parts-returns t c =
    let second = c.first_between-second.result.now in
    let later = c.later_between-later.result.now in
    let texts = map (expr_bytes c.args.prefix.now c.args.subs.now) c.args.parts.now in
    rest_end (λ (parts : List Expr). separated second later c.loop-number.number (map (expr_bytes c.args.prefix.now c.args.subs.now) parts)) _ _
    c.args.parts.now c.loop-number.number c.loop-number-test.false refl c.loop-number.invariant
    ∙ ap (λ word. c.args.draft.now ++ separated word later 0 texts) c.first_between-second.ensures
    ∙ ap (λ word. c.args.draft.now ++ separated (first_between c.args.op (length c.args.parts.now)) word 0 texts) c.later_between-later.ensures

pub push_steps_of-loop-step-preserved : goal.push_steps_of-loop-step-preserved
push_steps_of-loop-step-preserved t c =
    let F = λ (steps : List ChainStep). steps_text c.args.additive (steps_of c.args.prefix.now c.args.subs.now steps) in
    let part = λ (step : ChainStep). step_text c.args.additive (step_text_of c.args.prefix.now c.args.subs.now step) in
    rest_next F F part _ c.loop-step.draft _ c.args.steps.now c.loop-step.step-index c.step-item.result c.loop-step-test.true c.step-item.is refl
    c.loop-step.invariant
    (laid2 c.loop-step.draft _ _ (chain_word c.args.additive c.step-item.result.op) (expr_bytes c.args.prefix.now c.args.subs.now c.step-item.result.part)
    (rw c.chain_word.ensures at c.in_ok-push.ensures) c.in_ok-push_expr.ensures)

pub push_steps_of-returns : goal.push_steps_of-returns
push_steps_of-returns t c =
    rest_end (λ (steps : List ChainStep). steps_text c.args.additive (steps_of c.args.prefix.now c.args.subs.now steps)) _ _ c.args.steps.now
    c.loop-step.step-index c.loop-step-test.false refl c.loop-step.invariant

pub push_arms_alone-loop-arm-preserved : goal.push_arms_alone-loop-arm-preserved
push_arms_alone-loop-arm-preserved t c =
    let F = λ (arms : List Arm). arms_text (arms_of c.args.prefix.now c.args.subs.now arms) in
    let part = λ (arm : Arm). arm_text (arm_text_of c.args.prefix.now c.args.subs.now arm) in
    rest_next F F part _ c.loop-arm.draft _ c.args.arms.now c.loop-arm.arm-index c.arm-item.result c.loop-arm-test.true c.arm-item.is refl c.loop-arm.invariant
    (laid4 c.loop-arm.draft _ _ _ _ (codes "WHEN ") (expr_bytes c.args.prefix.now c.args.subs.now c.arm-item.result.condition) (codes "THEN ")
    (expr_bytes c.args.prefix.now c.args.subs.now c.arm-item.result.value) c.in_ok-push.ensures c.in_ok-push_expr.ensures c.in_ok-push-2.ensures
    c.in_ok-push_expr-2.ensures)

pub push_arms_alone-returns : goal.push_arms_alone-returns
push_arms_alone-returns t c =
    rest_end (λ (arms : List Arm). arms_text (arms_of c.args.prefix.now c.args.subs.now arms)) _ _ c.args.arms.now c.loop-arm.arm-index
    c.loop-arm-test.false refl c.loop-arm.invariant
