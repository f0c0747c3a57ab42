use Rattle.std.proofs.Common.{◌++◌, refl, sym, ap, ◌∙◌, arith}
use Rattle.query_facts.specs.reached.reads.Columns.{expr_columns}
use Rattle.query_facts.specs.reached.reads.built.Columns.{all_parts_columns, all_steps_columns, all_arms_columns, step_columns, arm_columns, columns-Op, columns-Chain, columns-Case, columns-IsNull, columns-IsTruth, columns-Same}
use Rattle.query_facts.proofs.Gathered.{said_as, no-more, two-more, none-yet, one-more, all-done}
use Rattle.query_facts.proofs.reached.reads.expressions.+expr_columns.Goals as goal

pub expr_columns-returns-in-Lit : goal.expr_columns-returns-in-Lit
expr_columns-returns-in-Lit t c = no-more c.args.found _ (ap expr_columns c.in-Lit.is)

pub expr_columns-returns-in-Sub : goal.expr_columns-returns-in-Sub
expr_columns-returns-in-Sub t c = no-more c.args.found _ (ap expr_columns c.in-Sub.is)

pub expr_columns-returns-in-Op : goal.expr_columns-returns-in-Op
expr_columns-returns-in-Op t c =
    said_as _ _ _ (ap (λ cs. c.args.found ++ cs) (ap all_parts_columns c.as_slice.ensures ∙ sym (ap expr_columns c.in-Op.is ∙ columns-Op c.in-Op.op c.in-Op.parts)))
    c.parts_columns.ensures

pub expr_columns-returns-in_ok-found-in-Chain : goal.expr_columns-returns-in_ok-found-in-Chain
expr_columns-returns-in_ok-found-in-Chain t c =
    said_as _ _ _
    (ap (λ l. c.in_ok-found-in-Chain.found ++ all_steps_columns l) c.as_slice-in-Chain.ensures
    ∙ two-more c.args.found (expr_columns c.in-Chain.first) (all_steps_columns c.in-Chain.steps) c.in_ok-found-in-Chain.found _
    (c.in_ok-found-in-Chain.ensures ∙ ap (λ e. c.args.found ++ expr_columns e) c.get.ensures)
    (ap expr_columns c.in-Chain.is ∙ columns-Chain c.in-Chain.first c.in-Chain.steps))
    c.steps_columns.ensures

pub expr_columns-returns-in_ok-found-in-Case : goal.expr_columns-returns-in_ok-found-in-Case
expr_columns-returns-in_ok-found-in-Case t c =
    said_as _ _ _
    (ap (λ e. c.in_ok-found-in-Case.found ++ expr_columns e) c.get-in-Case.ensures
    ∙ two-more c.args.found (all_arms_columns c.in-Case.arms) (expr_columns c.in-Case.otherwise) c.in_ok-found-in-Case.found _
    (c.in_ok-found-in-Case.ensures ∙ ap (λ l. c.args.found ++ all_arms_columns l) c.as_slice-in-Case.ensures)
    (ap expr_columns c.in-Case.is ∙ columns-Case c.in-Case.arms c.in-Case.otherwise))
    c.expr_columns-in-Case.ensures

pub expr_columns-returns-in-IsNull : goal.expr_columns-returns-in-IsNull
expr_columns-returns-in-IsNull t c =
    said_as _ _ _ (ap (λ cs. c.args.found ++ cs) (ap expr_columns c.get-in-IsNull.ensures ∙ sym (ap expr_columns c.in-IsNull.is ∙ columns-IsNull c.in-IsNull.part)))
    c.expr_columns-in-IsNull.ensures

pub expr_columns-returns-in-IsTruth : goal.expr_columns-returns-in-IsTruth
expr_columns-returns-in-IsTruth t c =
    said_as _ _ _ (ap (λ cs. c.args.found ++ cs) (ap expr_columns c.get-in-IsTruth.ensures ∙ sym (ap expr_columns c.in-IsTruth.is ∙ columns-IsTruth c.in-IsTruth.truth c.in-IsTruth.part)))
    c.expr_columns-in-IsTruth.ensures

pub expr_columns-returns-in_ok-found-in-Same : goal.expr_columns-returns-in_ok-found-in-Same
expr_columns-returns-in_ok-found-in-Same t c =
    said_as _ _ _
    (ap (λ e. c.in_ok-found-in-Same.found ++ expr_columns e) c.get-in-Same-2.ensures
    ∙ two-more c.args.found (expr_columns c.in-Same.first) (expr_columns c.in-Same.second) c.in_ok-found-in-Same.found _
    (c.in_ok-found-in-Same.ensures ∙ ap (λ e. c.args.found ++ expr_columns e) c.get-in-Same.ensures)
    (ap expr_columns c.in-Same.is ∙ columns-Same c.in-Same.first c.in-Same.second))
    c.expr_columns-in-Same-2.ensures

pub parts_columns-loop-part-init : goal.parts_columns-loop-part-init
parts_columns-loop-part-init t c = none-yet expr_columns c.args.parts.now c.args.found

pub parts_columns-loop-part-preserved : goal.parts_columns-loop-part-preserved
parts_columns-loop-part-preserved t c =
    one-more expr_columns c.args.parts.now c.args.found c.loop-part.part-index c.loop-part.columns c.loop-part.invariant c.part-item.result c.in_ok-columns.columns
    c.loop-part-test.true c.part-item.is c.in_ok-columns.ensures

pub parts_columns-returns : goal.parts_columns-returns
parts_columns-returns t c = all-done expr_columns c.args.parts.now c.args.found c.loop-part.part-index c.loop-part.columns c.loop-part.invariant (omega arith)

pub steps_columns-loop-step-init : goal.steps_columns-loop-step-init
steps_columns-loop-step-init t c = none-yet step_columns c.args.steps.now c.args.found

pub steps_columns-loop-step-preserved : goal.steps_columns-loop-step-preserved
steps_columns-loop-step-preserved t c =
    one-more step_columns c.args.steps.now c.args.found c.loop-step.step-index c.loop-step.columns c.loop-step.invariant c.step-item.result c.in_ok-columns.columns
    c.loop-step-test.true c.step-item.is c.in_ok-columns.ensures

pub steps_columns-returns : goal.steps_columns-returns
steps_columns-returns t c = all-done step_columns c.args.steps.now c.args.found c.loop-step.step-index c.loop-step.columns c.loop-step.invariant (omega arith)

pub arms_columns-loop-arm-init : goal.arms_columns-loop-arm-init
arms_columns-loop-arm-init t c = none-yet arm_columns c.args.arms.now c.args.found

pub arms_columns-loop-arm-preserved : goal.arms_columns-loop-arm-preserved
arms_columns-loop-arm-preserved t c =
    one-more arm_columns c.args.arms.now c.args.found c.loop-arm.arm-index c.loop-arm.columns c.loop-arm.invariant c.arm-item.result c.in_ok-columns-2.columns
    c.loop-arm-test.true c.arm-item.is
    (c.in_ok-columns-2.ensures
    ∙ two-more c.loop-arm.columns (expr_columns c.arm-item.result.condition) (expr_columns c.arm-item.result.value) c.in_ok-columns.columns (arm_columns c.arm-item.result) c.in_ok-columns.ensures refl)

pub arms_columns-returns : goal.arms_columns-returns
arms_columns-returns t c = all-done arm_columns c.args.arms.now c.args.found c.loop-arm.arm-index c.loop-arm.columns c.loop-arm.invariant (omega arith)
