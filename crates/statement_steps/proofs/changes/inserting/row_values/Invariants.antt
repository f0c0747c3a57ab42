use Rattle.std.proofs.Common.{◌≡◌, take}
use Rattle.bag_algebra.specs.Outcome.{Good, each}
use Rattle.statement_meaning.specs.Turns.{row_value}
use Rattle.statement_steps.proofs.changes.inserting.row_values.Given as goal

-- the rows so far
abbrev pub invariant-loop-row : goal.invariant-loop-row
invariant-loop-row l = each row_value (take l.row-index l.rows) ≡ Good l.made
