use Rattle.std.proofs.Common.{take, ap, ◌∙◌}
use Rattle.perm_values.proofs.Lists.{taken}
use Rattle.bag_algebra.specs.Outcome.{each}
use Rattle.row_values.proofs.Outcomes.{passed, each_item, each_good}
use Rattle.delete_impact.specs.vanishing.Doomed.{doomed_on}
use Rattle.statement_steps.proofs.changes.deleting.doomed.Goals as goal

pub returns-in_err-goes : goal.returns-in_err-goes
returns-in_err-goes c =
    passed _ _ c.from_residual-in_err-goes.result c.from_residual-in_err-goes.ensures.1
    (each_item (doomed_on c.args.condition.now) c.args.rows.now c.loop-row.row-index c.row-item.result _ c.loop-row-test.true c.row-item.is c.in_err-goes.ensures)

pub loop-row-preserved : goal.loop-row-preserved
loop-row-preserved c =
    rw c.in_ok-push.ensures.ok
    (ap (each (doomed_on c.args.condition.now)) (taken c.args.rows.now c.loop-row.row-index c.row-item.result c.loop-row-test.true c.row-item.is)
    ∙ each_good (doomed_on c.args.condition.now) (take c.loop-row.row-index c.args.rows.now) c.row-item.result _ _ c.loop-row.invariant c.in_ok-goes.ensures)
