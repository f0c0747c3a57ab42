use Rattle.std.proofs.Common.{take, ap, ◌∙◌}
use Rattle.perm_values.proofs.Lists.{taken}
use Rattle.bag_algebra.specs.Outcome.{each}
use Rattle.row_values.proofs.Outcomes.{passed, each_item, each_good}
use Rattle.statement_meaning.specs.Turns.{row_value}
use Rattle.statement_steps.proofs.changes.inserting.row_values.Goals as goal

pub returns-in_err-row_value : goal.returns-in_err-row_value
returns-in_err-row_value c =
    passed _ _ c.from_residual-in_err-row_value.result c.from_residual-in_err-row_value.ensures.1
    (each_item row_value c.args.rows.now c.loop-row.row-index c.row-item.result _ c.loop-row-test.true c.row-item.is (rw c.as_slice.ensures at c.in_err-row_value.ensures))

pub loop-row-preserved : goal.loop-row-preserved
loop-row-preserved c =
    rw c.in_ok-push.ensures.ok
    (ap (each row_value) (taken c.args.rows.now c.loop-row.row-index c.row-item.result c.loop-row-test.true c.row-item.is)
    ∙ each_good row_value (take c.loop-row.row-index c.args.rows.now) c.row-item.result _ _ c.loop-row.invariant (rw c.as_slice.ensures at c.in_ok-row_value.ensures))
