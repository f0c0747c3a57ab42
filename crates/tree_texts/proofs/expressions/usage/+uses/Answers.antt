use Rattle.std.proofs.Common.{◌∙◌, sym, ap}
use Rattle.tree_texts.specs.expressions.Used.{all_parts_use, all_steps_use, all_arms_use}
use Rattle.tree_texts.specs.expressions.Uses.{uses}
use Rattle.tree_texts.proofs.OpenedUses.{uses-Op, uses-Chain, uses-Case, uses-IsNull, uses-IsTruth, uses-Same, first-holds, second-answers}
use Rattle.tree_texts.proofs.expressions.usage.+uses.Goals as goal

pub uses-returns-in-Op : goal.uses-returns-in-Op
uses-returns-in-Op t c =
    c.parts_use.ensures ∙ ap (all_parts_use c.args.number) c.as_slice.ensures
    ∙ sym (ap (uses c.args.number) c.in-Op.is ∙ uses-Op c.args.number c.in-Op.op c.in-Op.parts)

pub uses-returns-then-steps_use : goal.uses-returns-then-steps_use
uses-returns-then-steps_use t c =
    first-holds _ _ _ _ (ap (uses c.args.number) c.in-Chain.is ∙ uses-Chain c.args.number c.in-Chain.first c.in-Chain.steps)
    (c.steps_use.ensures ∙ ap (all_steps_use c.args.number) c.as_slice-in-Chain.ensures) c.if-steps_use.true

pub uses-returns-else-steps_use : goal.uses-returns-else-steps_use
uses-returns-else-steps_use t c =
    second-answers _ _ _ _ (ap (uses c.args.number) c.in-Chain.is ∙ uses-Chain c.args.number c.in-Chain.first c.in-Chain.steps)
    (c.steps_use.ensures ∙ ap (all_steps_use c.args.number) c.as_slice-in-Chain.ensures) _ c.if-steps_use.false
    (c.uses.ensures ∙ ap (uses c.args.number) c.get.ensures)

pub uses-returns-then-arms_use : goal.uses-returns-then-arms_use
uses-returns-then-arms_use t c =
    first-holds _ _ _ _ (ap (uses c.args.number) c.in-Case.is ∙ uses-Case c.args.number c.in-Case.arms c.in-Case.otherwise)
    (c.arms_use.ensures ∙ ap (all_arms_use c.args.number) c.as_slice-in-Case.ensures) c.if-arms_use.true

pub uses-returns-else-arms_use : goal.uses-returns-else-arms_use
uses-returns-else-arms_use t c =
    second-answers _ _ _ _ (ap (uses c.args.number) c.in-Case.is ∙ uses-Case c.args.number c.in-Case.arms c.in-Case.otherwise)
    (c.arms_use.ensures ∙ ap (all_arms_use c.args.number) c.as_slice-in-Case.ensures) _ c.if-arms_use.false
    (c.uses-else-arms_use.ensures ∙ ap (uses c.args.number) c.get-else-arms_use.ensures)

pub uses-returns-in-IsNull : goal.uses-returns-in-IsNull
uses-returns-in-IsNull t c =
    c.uses-in-IsNull.ensures ∙ ap (uses c.args.number) c.get-in-IsNull.ensures
    ∙ sym (ap (uses c.args.number) c.in-IsNull.is ∙ uses-IsNull c.args.number c.in-IsNull.part)

pub uses-returns-in-IsTruth : goal.uses-returns-in-IsTruth
uses-returns-in-IsTruth t c =
    c.uses-in-IsTruth.ensures ∙ ap (uses c.args.number) c.get-in-IsTruth.ensures
    ∙ sym (ap (uses c.args.number) c.in-IsTruth.is ∙ uses-IsTruth c.args.number c.in-IsTruth.truth c.in-IsTruth.part)

pub uses-returns-then-uses : goal.uses-returns-then-uses
uses-returns-then-uses t c =
    first-holds _ _ _ _ (ap (uses c.args.number) c.in-Same.is ∙ uses-Same c.args.number c.in-Same.first c.in-Same.second)
    (c.uses-in-Same.ensures ∙ ap (uses c.args.number) c.get-in-Same.ensures) c.if-uses.true

pub uses-returns-else-uses : goal.uses-returns-else-uses
uses-returns-else-uses t c =
    second-answers _ _ _ _ (ap (uses c.args.number) c.in-Same.is ∙ uses-Same c.args.number c.in-Same.first c.in-Same.second)
    (c.uses-in-Same.ensures ∙ ap (uses c.args.number) c.get-in-Same.ensures) _ c.if-uses.false
    (c.uses-else-uses.ensures ∙ ap (uses c.args.number) c.get-else-uses.ensures)
