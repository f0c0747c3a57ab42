use Rattle.std.proofs.Common.{◌≡◌, true, ◌&&◌, subst}
use Rattle.bag_algebra.proofs.Truths.{both-true}
use Rattle.bag_algebra.specs.declared.expr.Arm.{Arm}
use Rattle.bag_algebra.specs.declared.expr.ChainStep.{ChainStep}
use Rattle.perm_values.proofs.Taken.{opened}
use Rattle.contribution.proofs.MovedVariants.{along-next}
use Rattle.query_laws.specs.SameExpressions.{SameExpr}
use Rattle.folded_literals.proofs.Rebuilt.{same-Op, same-Chain, same-Case, same-IsNull, same-IsTruth, same-Same, made_onward}
use Rattle.folded_literals.proofs.Settling.{all-more}
use Rattle.folded_literals.specs.Rebuilt.{SameParts, SameSteps, SameArms, SameStep, SameArm}
use Rattle.folded_literals.specs.Settled.{is_settled}
use Rattle.folded_literals.specs.built.Settled.{all_settled, all_steps_settled, all_arms_settled, settled-Op, settled-Chain, settled-Case, settled-IsNull, settled-IsTruth, settled-Same}
use Rattle.folded_literals.proofs.folding.+folded.Goals as goal

pub folded-returns-in_ok-parts-in-Op : goal.folded-returns-in_ok-parts-in-Op
folded-returns-in_ok-parts-in-Op t c = record {
  same = made_onward c.args.expr.now _ _ c.in-Op.is
      (same-Op c.in-Op.op c.in-Op.parts c.in_ok-parts-in-Op.parts
      (subst (λ es. SameParts es c.in_ok-parts-in-Op.parts) c.as_slice.ensures c.in_ok-parts-in-Op.ensures.same)) c.settled.result c.settled.ensures.same;
  settled = c.settled.ensures.settled (all_settled c.in_ok-parts-in-Op.parts) (settled-Op c.in-Op.op c.in_ok-parts-in-Op.parts) c.in_ok-parts-in-Op.ensures.settled;
}

pub folded-returns-in_ok-first-in-Chain : goal.folded-returns-in_ok-first-in-Chain
folded-returns-in_ok-first-in-Chain t c =
    let first = c.in_ok-first-in-Chain.first in
    let steps = c.in_ok-first-in-Chain.steps in
    let given = c.in_ok-first-in-Chain.ensures in
    record {
      same = made_onward c.args.expr.now _ _ c.in-Chain.is
          (same-Chain c.in-Chain.first first c.in-Chain.steps steps
          (opened (SameExpr c.in-Chain.first) c.folded_boxed.result _ given.first_was c.folded_boxed.ensures.same)
          (subst (λ es. SameSteps es steps) c.as_slice-in-Chain.ensures
          (opened (SameSteps c.as_slice-in-Chain.result.now) c.folded_steps.result _ given.second_was c.folded_steps.ensures.same)))
          c.settled-in-Chain.result c.settled-in-Chain.ensures.same;
      settled = c.settled-in-Chain.ensures.settled (is_settled first && all_steps_settled steps) (settled-Chain first steps)
          (both-true (is_settled first) (all_steps_settled steps)
          (opened (λ made. is_settled made ≡ true) c.folded_boxed.result _ given.first_was c.folded_boxed.ensures.settled)
          (opened (λ made. all_steps_settled made ≡ true) c.folded_steps.result _ given.second_was c.folded_steps.ensures.settled));
    }

pub folded-returns-in_ok-arms-in-Case : goal.folded-returns-in_ok-arms-in-Case
folded-returns-in_ok-arms-in-Case t c =
    let arms = c.in_ok-arms-in-Case.arms in
    let otherwise = c.in_ok-arms-in-Case.otherwise in
    let given = c.in_ok-arms-in-Case.ensures in
    record {
      same = made_onward c.args.expr.now _ _ c.in-Case.is
          (same-Case c.in-Case.arms arms c.in-Case.otherwise otherwise
          (subst (λ es. SameArms es arms) c.as_slice-in-Case.ensures
          (opened (SameArms c.as_slice-in-Case.result.now) c.folded_arms.result _ given.first_was c.folded_arms.ensures.same))
          (opened (SameExpr c.in-Case.otherwise) c.folded_boxed-in-Case.result _ given.second_was c.folded_boxed-in-Case.ensures.same))
          c.settled-in-Case.result c.settled-in-Case.ensures.same;
      settled = c.settled-in-Case.ensures.settled (all_arms_settled arms && is_settled otherwise) (settled-Case arms otherwise)
          (both-true (all_arms_settled arms) (is_settled otherwise)
          (opened (λ made. all_arms_settled made ≡ true) c.folded_arms.result _ given.first_was c.folded_arms.ensures.settled)
          (opened (λ made. is_settled made ≡ true) c.folded_boxed-in-Case.result _ given.second_was c.folded_boxed-in-Case.ensures.settled));
    }

pub folded-returns-in_ok-part-in-IsNull : goal.folded-returns-in_ok-part-in-IsNull
folded-returns-in_ok-part-in-IsNull t c =
    let part = c.in_ok-part-in-IsNull.part in
    record {
      same = made_onward c.args.expr.now _ _ c.in-IsNull.is (same-IsNull c.in-IsNull.part part c.in_ok-part-in-IsNull.ensures.same)
          c.settled-in-IsNull.result c.settled-in-IsNull.ensures.same;
      settled = c.settled-in-IsNull.ensures.settled (is_settled part) (settled-IsNull part) c.in_ok-part-in-IsNull.ensures.settled;
    }

pub folded-returns-in_ok-part-in-IsTruth : goal.folded-returns-in_ok-part-in-IsTruth
folded-returns-in_ok-part-in-IsTruth t c =
    let part = c.in_ok-part-in-IsTruth.part in
    record {
      same = made_onward c.args.expr.now _ _ c.in-IsTruth.is (same-IsTruth c.in-IsTruth.truth c.in-IsTruth.part part c.in_ok-part-in-IsTruth.ensures.same)
          c.settled-in-IsTruth.result c.settled-in-IsTruth.ensures.same;
      settled = c.settled-in-IsTruth.ensures.settled (is_settled part) (settled-IsTruth c.in-IsTruth.truth part) c.in_ok-part-in-IsTruth.ensures.settled;
    }

pub folded-returns-in_ok-first-in-Same : goal.folded-returns-in_ok-first-in-Same
folded-returns-in_ok-first-in-Same t c =
    let first = c.in_ok-first-in-Same.first in
    let second = c.in_ok-first-in-Same.second in
    let given = c.in_ok-first-in-Same.ensures in
    record {
      same = made_onward c.args.expr.now _ _ c.in-Same.is
          (same-Same c.in-Same.first c.in-Same.second first second
          (opened (SameExpr c.in-Same.first) c.folded_boxed-in-Same.result _ given.first_was c.folded_boxed-in-Same.ensures.same)
          (opened (SameExpr c.in-Same.second) c.folded_boxed-in-Same-2.result _ given.second_was c.folded_boxed-in-Same-2.ensures.same))
          c.settled-in-Same.result c.settled-in-Same.ensures.same;
      settled = c.settled-in-Same.ensures.settled (is_settled first && is_settled second) (settled-Same first second)
          (both-true (is_settled first) (is_settled second)
          (opened (λ made. is_settled made ≡ true) c.folded_boxed-in-Same.result _ given.first_was c.folded_boxed-in-Same.ensures.settled)
          (opened (λ made. is_settled made ≡ true) c.folded_boxed-in-Same-2.result _ given.second_was c.folded_boxed-in-Same-2.ensures.settled));
    }

pub folded_parts-loop-part-preserved : goal.folded_parts-loop-part-preserved
folded_parts-loop-part-preserved t c = record {
  same = along-next SameExpr c.args.parts.now c.loop-part.made c.push.new.self c.loop-part.part-index c.part-item.result c.in_ok-folded.field-0
      c.loop-part-test.true c.part-item.is c.loop-part.invariant.same c.in_ok-folded.ensures.same c.in_ok-push.ensures.ok;
  settled = all-more is_settled c.loop-part.made c.push.new.self c.in_ok-folded.field-0 c.loop-part.invariant.settled c.in_ok-folded.ensures.settled c.in_ok-push.ensures.ok;
}

pub folded_steps-loop-step-preserved : goal.folded_steps-loop-step-preserved
folded_steps-loop-step-preserved t c =
    let made : ChainStep = record { op = c.step-item.result.op; part = c.in_ok-part.part } in
    record {
      same = along-next SameStep c.args.steps.now c.loop-step.made c.push.new.self c.loop-step.step-index c.step-item.result made
          c.loop-step-test.true c.step-item.is c.loop-step.invariant.same (record { op = λ i. c.step-item.result.op; part = c.in_ok-part.ensures.same }) c.in_ok-push.ensures.ok;
      settled = all-more (λ (step : ChainStep). is_settled step.part) c.loop-step.made c.push.new.self made c.loop-step.invariant.settled
          c.in_ok-part.ensures.settled c.in_ok-push.ensures.ok;
    }

pub folded_arms-loop-arm-preserved : goal.folded_arms-loop-arm-preserved
folded_arms-loop-arm-preserved t c =
    let made : Arm = record { condition = c.in_ok-condition.condition; value = c.in_ok-condition.value } in
    let given = c.in_ok-condition.ensures in
    record {
      same = along-next SameArm c.args.arms.now c.loop-arm.made c.push.new.self c.loop-arm.arm-index c.arm-item.result made
          c.loop-arm-test.true c.arm-item.is c.loop-arm.invariant.same
          (record {
            condition = opened (SameExpr c.arm-item.result.condition) c.folded.result _ given.first_was c.folded.ensures.same;
            value = opened (SameExpr c.arm-item.result.value) c.folded-in-loop-arm.result _ given.second_was c.folded-in-loop-arm.ensures.same;
          })
          c.in_ok-push.ensures.ok;
      settled = all-more (λ (arm : Arm). is_settled arm.condition && is_settled arm.value) c.loop-arm.made c.push.new.self made c.loop-arm.invariant.settled
          (both-true (is_settled made.condition) (is_settled made.value)
          (opened (λ e. is_settled e ≡ true) c.folded.result _ given.first_was c.folded.ensures.settled)
          (opened (λ e. is_settled e ≡ true) c.folded-in-loop-arm.result _ given.second_was c.folded-in-loop-arm.ensures.settled))
          c.in_ok-push.ensures.ok;
    }
