use Rattle.std.proofs.Common.{◌≡◌, take}
use Rattle.bag_algebra.specs.Outcome.{Good}
use Rattle.statement_meaning.specs.Turns.{row_value}
use Rattle.statement_steps.proofs.changes.inserting.row_value.Given as goal

-- the values so far
abbrev pub invariant-loop-expr : goal.invariant-loop-expr
invariant-loop-expr l = row_value (take l.expr-index l.exprs) ≡ Good l.values
