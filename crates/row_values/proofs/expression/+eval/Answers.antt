use Rattle.std.proofs.Common.{[], ◌∷◌, ◌++◌, take, sym, ap, subst, ◌∙◌, arith}
use Rattle.perm_values.proofs.Lists.{taken}
use Rattle.bag_algebra.specs.Expressions.{value, operate, chain}
use Rattle.bag_algebra.specs.Outcome.{mapped, each}
use Rattle.bag_algebra.specs.Children.{step_of, arms_value}
use Rattle.row_values.specs.Answers.{Refuses}
use Rattle.row_values.specs.Parts.{gone_on, joined}
use Rattle.row_values.proofs.Outcomes.{along, passed, mapped_part, and_then_first, both_then_second, each_item, each_good}
use Rattle.row_values.proofs.Truths.{together_more}
use Rattle.row_values.proofs.Values.{on_op, on_chain, on_case, on_is_null, on_is_truth, on_same, chain_more, chose_some, chose_none}
use Rattle.row_values.proofs.expression.+eval.Goals as goal

pub eval-returns-in-Op : goal.eval-returns-in-Op
eval-returns-in-Op t c =
    along _ _ c.operated.result (on_op c.args.row.now c.args.env.now c.args.subs.now c.args.expr.now c.in-Op.op c.in-Op.parts c.in-Op.is)
    (rw c.as_slice.ensures at c.operated.ensures)

pub eval-returns-in-Chain : goal.eval-returns-in-Chain
eval-returns-in-Chain t c =
    along _ _ c.chained.result (on_chain c.args.row.now c.args.env.now c.args.subs.now c.args.expr.now c.in-Chain.first c.in-Chain.steps c.in-Chain.is)
    (rw c.as_slice-in-Chain.ensures at (c.chained.ensures (value c.in-Chain.first c.args.row.now c.args.env.now c.args.subs.now) (rw c.get.ensures at c.eval-start.ensures)))

pub eval-returns-in-Ok-Some : goal.eval-returns-in-Ok-Some
eval-returns-in-Ok-Some t c =
    on_case c.args.row.now c.args.env.now c.args.subs.now c.args.expr.now c.in-Case.arms c.in-Case.otherwise c.in-Case.is
    ∙ ap (λ l. arms_value l c.args.row.now c.args.env.now c.args.subs.now (value c.in-Case.otherwise c.args.row.now c.args.env.now c.args.subs.now)) (sym c.as_slice-in-Case.ensures)
    ∙ chose_some (arms_value c.as_slice-in-Case.result.now c.args.row.now c.args.env.now c.args.subs.now) c.in-Ok-Some.field-0 c.in-Ok-Some.value c.in-Ok-Some.field-0-is
    c.in-Ok-Some.ensures (value c.in-Case.otherwise c.args.row.now c.args.env.now c.args.subs.now)

pub eval-returns-in-Ok-None : goal.eval-returns-in-Ok-None
eval-returns-in-Ok-None t c =
    along _ _ c.eval.result
    (on_case c.args.row.now c.args.env.now c.args.subs.now c.args.expr.now c.in-Case.arms c.in-Case.otherwise c.in-Case.is
    ∙ ap (λ l. arms_value l c.args.row.now c.args.env.now c.args.subs.now (value c.in-Case.otherwise c.args.row.now c.args.env.now c.args.subs.now)) (sym c.as_slice-in-Case.ensures)
    ∙ chose_none (arms_value c.as_slice-in-Case.result.now c.args.row.now c.args.env.now c.args.subs.now) c.in-Ok-None.field-0 c.in-Ok-None.field-0-is
    c.in-Ok-None.ensures (value c.in-Case.otherwise c.args.row.now c.args.env.now c.args.subs.now))
    (rw c.get-in-Ok-None.ensures at c.eval.ensures)

pub eval-returns-in-Err : goal.eval-returns-in-Err
eval-returns-in-Err t c =
    subst (λ o. Refuses o c.in-Err.error)
    (sym (on_case c.args.row.now c.args.env.now c.args.subs.now c.args.expr.now c.in-Case.arms c.in-Case.otherwise c.in-Case.is))
    (rw c.as_slice-in-Case.ensures at (c.in-Err.ensures (value c.in-Case.otherwise c.args.row.now c.args.env.now c.args.subs.now)))

pub eval-returns-in-IsNull : goal.eval-returns-in-IsNull
eval-returns-in-IsNull t c =
    along _ _ c.null_test.result
    (on_is_null c.args.row.now c.args.env.now c.args.subs.now c.args.expr.now c.in-IsNull.part c.in-IsNull.is)
    (rw c.get-in-IsNull.ensures at c.null_test.ensures)

pub eval-returns-in-IsTruth : goal.eval-returns-in-IsTruth
eval-returns-in-IsTruth t c =
    along _ _ c.truth_test.result
    (on_is_truth c.args.row.now c.args.env.now c.args.subs.now c.args.expr.now c.in-IsTruth.truth c.in-IsTruth.part c.in-IsTruth.is)
    (rw c.get-in-IsTruth.ensures at c.truth_test.ensures)

pub eval-returns-in-Same : goal.eval-returns-in-Same
eval-returns-in-Same t c =
    along _ _ c.same_as.result
    (on_same c.args.row.now c.args.env.now c.args.subs.now c.args.expr.now c.in-Same.first c.in-Same.second c.in-Same.is)
    (c.same_as.ensures (value c.in-Same.first c.args.row.now c.args.env.now c.args.subs.now) (value c.in-Same.second c.args.row.now c.args.env.now c.args.subs.now)
    (rw c.get-in-Same.ensures at c.operand-left.ensures) (rw c.get-in-Same-2.ensures at c.operand.ensures))

pub no_connective-returns-in_err-left-in-len2 : goal.no_connective-returns-in_err-left-in-len2
no_connective-returns-in_err-left-in-len2 t c =
    passed _ _ c.from_residual-in_err-left-in-len2.result c.from_residual-in_err-left-in-len2.ensures.1
    (and_then_first _ (operate c.args.op) _
    (each_item (λ part. value part c.args.row.now c.args.env.now c.args.subs.now) c.args.parts.now 0 c.first-item.result _ (omega arith) c.first-item.is c.in_err-left-in-len2.ensures))

pub no_connective-returns-in_err-right-in-len2 : goal.no_connective-returns-in_err-right-in-len2
no_connective-returns-in_err-right-in-len2 t c =
    passed _ _ c.from_residual-in_err-right-in-len2.result c.from_residual-in_err-right-in-len2.ensures.1
    (and_then_first _ (operate c.args.op) _
    (each_item (λ part. value part c.args.row.now c.args.env.now c.args.subs.now) c.args.parts.now 1 c.second-item.result _ (omega arith) c.second-item.is c.in_err-right-in-len2.ensures))

pub together-returns-in_err-value : goal.together-returns-in_err-value
together-returns-in_err-value t c =
    passed _ _ c.from_residual.result c.from_residual.ensures.1
    (and_then_first _ _ _
    (each_item (λ part. value part c.args.row.now c.args.env.now c.args.subs.now) c.args.parts.now c.loop-part.part-index c.part-item.result _ c.loop-part-test.true c.part-item.is c.in_err-value.ensures))

pub together-loop-part-preserved : goal.together-loop-part-preserved
together-loop-part-preserved t c =
    let so_far = c.loop-part.invariant in
    record {
      values = so_far.values ++ c.in_ok-value.value ∷ [];
      good =
          ap (each (λ part. value part c.args.row.now c.args.env.now c.args.subs.now)) (taken c.args.parts.now c.loop-part.part-index c.part-item.result c.loop-part-test.true c.part-item.is)
          ∙ each_good (λ part. value part c.args.row.now c.args.env.now c.args.subs.now) (take c.loop-part.part-index c.args.parts.now) c.part-item.result _ _ so_far.good c.in_ok-value.ensures;
      so_far =
          (rw c.get.ensures at c.joined-truth.ensures) ∙ ap (λ t. joined c.args.all t c.in_ok-value.value) so_far.so_far
          ∙ sym (together_more c.args.all so_far.values c.in_ok-value.value);
    }

pub operands-returns-in_err-operand : goal.operands-returns-in_err-operand
operands-returns-in_err-operand t c =
    passed _ _ c.from_residual-in_err-operand.result c.from_residual-in_err-operand.ensures.1
    (each_item (λ part. value part c.args.row.now c.args.env.now c.args.subs.now) c.args.parts.now c.loop-part.part-index c.part-item.result _ c.loop-part-test.true c.part-item.is c.in_err-operand.ensures)

pub operands-loop-part-preserved : goal.operands-loop-part-preserved
operands-loop-part-preserved t c =
    rw c.in_ok-push.ensures.ok
    (ap (each (λ part. value part c.args.row.now c.args.env.now c.args.subs.now)) (taken c.args.parts.now c.loop-part.part-index c.part-item.result c.loop-part-test.true c.part-item.is)
    ∙ each_good (λ part. value part c.args.row.now c.args.env.now c.args.subs.now) (take c.loop-part.part-index c.args.parts.now) c.part-item.result _ _ c.loop-part.invariant c.in_ok-operand.ensures)

pub chained-returns-in_err-right : goal.chained-returns-in_err-right
chained-returns-in_err-right t c = λ start from.
    passed _ _ c.from_residual-in_err-right.result c.from_residual-in_err-right.ensures.1
    (both_then_second start (each (step_of c.args.row.now c.args.env.now c.args.subs.now) c.args.steps.now) chain _
    (each_item (step_of c.args.row.now c.args.env.now c.args.subs.now) c.args.steps.now c.loop-step.step-index c.step-item.result _ c.loop-step-test.true c.step-item.is
    (mapped_part _ (value c.step-item.result.part c.args.row.now c.args.env.now c.args.subs.now) _ c.in_err-right.ensures)))

pub chained-loop-step-preserved : goal.chained-loop-step-preserved
chained-loop-step-preserved t c =
    let so_far = c.loop-step.invariant in
    record {
      start = so_far.start;
      made = so_far.made ++ (record { operation = c.step-item.result.op; operand = c.in_ok-right.right }) ∷ [];
      from = so_far.from;
      good =
          ap (each (step_of c.args.row.now c.args.env.now c.args.subs.now)) (taken c.args.steps.now c.loop-step.step-index c.step-item.result c.loop-step-test.true c.step-item.is)
          ∙ each_good (step_of c.args.row.now c.args.env.now c.args.subs.now) (take c.loop-step.step-index c.args.steps.now) c.step-item.result _ _ so_far.good
          (ap (mapped _) c.in_ok-right.ensures);
      so_far =
          chain_more so_far.start so_far.made (record { operation = c.step-item.result.op; operand = c.in_ok-right.right })
          ∙ ap (λ o. gone_on o c.step-item.result.op c.in_ok-right.right) so_far.so_far
          ∙ (rw c.get.ensures at c.stepped-value.ensures);
    }
