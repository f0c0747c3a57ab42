use Rattle.std.proofs.Common.{sym, ap, ◌∙◌}
use Rattle.bag_algebra.specs.built.Openings.{Chain-is, Case-is, IsNull-is, IsTruth-is, Same-is}
use Rattle.rewrite_move.proofs.ForcedParts.{forced-Op, part-found, part-passed, parts-passed}
use Rattle.rewrite_move.proofs.forced.+forced.Goals as goal
use Rattle.rewrite_move.specs.ForcedTruths.{all_forced, forced}

pub forced-returns-in-Op : goal.forced-returns-in-Op
forced-returns-in-Op t c =
    c.parts_forced.ensures
    ∙ (λ i. all_forced (c.of_first-first.ensures i) (c.of_others-others.ensures i) (c.as_slice.ensures i) c.args.number)
    ∙ sym (ap (λ e. forced c.args.known e c.args.number) c.in-Op.is ∙ forced-Op c.args.known c.in-Op.op c.in-Op.parts c.args.number)

pub forced-returns-in-Chain : goal.forced-returns-in-Chain
forced-returns-in-Chain t c = sym (ap (λ e. forced c.args.known e c.args.number) (c.in-Chain.is ∙ Chain-is c.in-Chain.first c.in-Chain.steps))

pub forced-returns-in-Case : goal.forced-returns-in-Case
forced-returns-in-Case t c = sym (ap (λ e. forced c.args.known e c.args.number) (c.in-Case.is ∙ Case-is c.in-Case.arms c.in-Case.otherwise))

pub forced-returns-in-IsNull : goal.forced-returns-in-IsNull
forced-returns-in-IsNull t c = sym (ap (λ e. forced c.args.known e c.args.number) (c.in-IsNull.is ∙ IsNull-is c.in-IsNull.part))

pub forced-returns-in-IsTruth : goal.forced-returns-in-IsTruth
forced-returns-in-IsTruth t c =
    c.forced.ensures
    ∙ (λ i. forced (c.if_true.ensures i) (c.get.ensures i) c.args.number)
    ∙ sym (ap (λ e. forced c.args.known e c.args.number) (c.in-IsTruth.is ∙ IsTruth-is c.in-IsTruth.truth c.in-IsTruth.part))

pub forced-returns-in-Same : goal.forced-returns-in-Same
forced-returns-in-Same t c = sym (ap (λ e. forced c.args.known e c.args.number) (c.in-Same.is ∙ Same-is c.in-Same.first c.in-Same.second))

pub parts_forced-loop-part-preserved : goal.parts_forced-loop-part-preserved
parts_forced-loop-part-preserved t c =
    part-passed c.loop-part.known c.args.others c.args.parts.now c.part-item.result c.loop-part.part-index c.args.number _ c.loop-part-test.true c.part-item.is
    c.loop-part.invariant (sym c.forced.ensures ∙ c.in-None.is)

pub parts_forced-returns-in-Some : goal.parts_forced-returns-in-Some
parts_forced-returns-in-Some t c =
    sym (part-found c.loop-part.known c.args.others c.args.parts.now c.part-item.result c.loop-part.part-index c.args.number _ c.loop-part-test.true c.part-item.is
    c.loop-part.invariant c.in-Some.truth (sym c.forced.ensures ∙ c.in-Some.is))

pub parts_forced-returns : goal.parts_forced-returns
parts_forced-returns t c =
    sym (parts-passed c.loop-part.known c.args.others c.args.parts.now c.loop-part.part-index c.args.number _ c.loop-part-test.false c.loop-part.invariant)
