use Rattle.std.proofs.Common.{◌≡◌}
use Rattle.name_meaning.specs.Statements.{defined_columns}
use Rattle.name_statements.proofs.tables.defined_columns.Given as goal

-- the columns so far
abbrev pub invariant-loop-column : goal.invariant-loop-column
invariant-loop-column l = l.defined ≡ defined_columns l.yielded
