use Rattle.std.proofs.Common.{◌≡◌, take}
use Rattle.bag_algebra.specs.Outcome.{Good, each}
use Rattle.delete_impact.specs.vanishing.Doomed.{doomed_on}
use Rattle.statement_steps.proofs.changes.deleting.doomed.Given as goal

-- the flags so far
abbrev pub invariant-loop-row : goal.invariant-loop-row
invariant-loop-row l = each (doomed_on l.condition) (take l.row-index l.rows) ≡ Good l.flags
