use Rattle.std.specs.Prelude.{[]}
use Rattle.name_statements.proofs.seen.values.rows_break.Goals as goal

pub row_break-requires-clause-alone : goal.row_break-requires-clause-alone
row_break-requires-clause-alone c = c.alone.ensures []
