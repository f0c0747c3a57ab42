use Rattle.std.proofs.Common.{◌≡◌, true, false, sym, ap, ◌∙◌}
use Rattle.simpler_laws.specs.built.Reads.{all_parts_read_only, all_arms_read_only, reads_only-Op, reads_only-Chain, reads_only-Case, reads_only-IsNull, reads_only-IsTruth, reads_only-Same}
use Rattle.simpler_laws.specs.Reads.{reads_only}
use Rattle.bag_algebra.proofs.Truths.{second-decides, first-decides}
use Rattle.simpler_laws.proofs.columns.+reads_only.Goals as goal

pub reads_only-returns-in-Op : goal.reads_only-returns-in-Op
reads_only-returns-in-Op t c =
    (c.parts_read_only.ensures ∙ ap (all_parts_read_only c.args.outer c.args.from c.args.to) c.as_slice.ensures)
    ∙ sym (ap (reads_only c.args.outer c.args.from c.args.to) c.in-Op.is ∙ reads_only-Op c.args.outer c.args.from c.args.to c.in-Op.op c.in-Op.parts)

pub reads_only-returns-in-Chain : goal.reads_only-returns-in-Chain
reads_only-returns-in-Chain t c =
    sym (ap (reads_only c.args.outer c.args.from c.args.to) c.in-Chain.is ∙ reads_only-Chain c.args.outer c.args.from c.args.to c.in-Chain.first c.in-Chain.steps)

pub reads_only-returns-then-arms_read_only : goal.reads_only-returns-then-arms_read_only
reads_only-returns-then-arms_read_only t c =
    second-decides _ _ _ _ (ap (reads_only c.args.outer c.args.from c.args.to) c.in-Case.is ∙ reads_only-Case c.args.outer c.args.from c.args.to c.in-Case.arms c.in-Case.otherwise)
    (c.arms_read_only.ensures ∙ ap (all_arms_read_only c.args.outer c.args.from c.args.to) c.as_slice-in-Case.ensures) _ c.if-arms_read_only.true
    (c.reads_only.ensures ∙ ap (reads_only c.args.outer c.args.from c.args.to) c.get.ensures)

pub reads_only-returns-else-arms_read_only : goal.reads_only-returns-else-arms_read_only
reads_only-returns-else-arms_read_only t c =
    first-decides _ _ _ _ (ap (reads_only c.args.outer c.args.from c.args.to) c.in-Case.is ∙ reads_only-Case c.args.outer c.args.from c.args.to c.in-Case.arms c.in-Case.otherwise)
    (c.arms_read_only.ensures ∙ ap (all_arms_read_only c.args.outer c.args.from c.args.to) c.as_slice-in-Case.ensures) c.if-arms_read_only.false

pub reads_only-returns-in-IsNull : goal.reads_only-returns-in-IsNull
reads_only-returns-in-IsNull t c =
    (c.reads_only-in-IsNull.ensures ∙ ap (reads_only c.args.outer c.args.from c.args.to) c.get-in-IsNull.ensures)
    ∙ sym (ap (reads_only c.args.outer c.args.from c.args.to) c.in-IsNull.is ∙ reads_only-IsNull c.args.outer c.args.from c.args.to c.in-IsNull.part)

pub reads_only-returns-in-IsTruth : goal.reads_only-returns-in-IsTruth
reads_only-returns-in-IsTruth t c =
    (c.reads_only-in-IsTruth.ensures ∙ ap (reads_only c.args.outer c.args.from c.args.to) c.get-in-IsTruth.ensures)
    ∙ sym (ap (reads_only c.args.outer c.args.from c.args.to) c.in-IsTruth.is ∙ reads_only-IsTruth c.args.outer c.args.from c.args.to c.in-IsTruth.truth c.in-IsTruth.part)

pub reads_only-returns-then-reads_only : goal.reads_only-returns-then-reads_only
reads_only-returns-then-reads_only t c =
    second-decides _ _ _ _ (ap (reads_only c.args.outer c.args.from c.args.to) c.in-Same.is ∙ reads_only-Same c.args.outer c.args.from c.args.to c.in-Same.first c.in-Same.second)
    (c.reads_only-in-Same.ensures ∙ ap (reads_only c.args.outer c.args.from c.args.to) c.get-in-Same.ensures) _ c.if-reads_only.true
    (c.reads_only-then-reads_only.ensures ∙ ap (reads_only c.args.outer c.args.from c.args.to) c.get-then-reads_only.ensures)

pub reads_only-returns-else-reads_only : goal.reads_only-returns-else-reads_only
reads_only-returns-else-reads_only t c =
    first-decides _ _ _ _ (ap (reads_only c.args.outer c.args.from c.args.to) c.in-Same.is ∙ reads_only-Same c.args.outer c.args.from c.args.to c.in-Same.first c.in-Same.second)
    (c.reads_only-in-Same.ensures ∙ ap (reads_only c.args.outer c.args.from c.args.to) c.get-in-Same.ensures) c.if-reads_only.false
