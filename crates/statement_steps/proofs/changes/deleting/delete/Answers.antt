use Rattle.std.proofs.Common.{length, ap, ◌∙◌}
use Rattle.bag_algebra.proofs.Outcomes.{each-long}
use Rattle.delete_impact.specs.vanishing.Doomed.{doomed_on}
use Rattle.statement_steps.proofs.changes.deleting.delete.Goals as goal

pub remove-requires-clause-flags : goal.remove-requires-clause-flags
remove-requires-clause-flags c =
    ap length c.as_slice.ensures ∙ each-long (doomed_on c.args.condition.now) c.rows_of.result.now c.in-Ok.flags c.in-Ok.ensures ∙ ap length c.rows_of.ensures
