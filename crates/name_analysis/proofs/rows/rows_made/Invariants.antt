use Rattle.std.proofs.Common.{◌≡◌, take}
use Rattle.name_meaning.specs.Statements.{rows_made}
use Rattle.perm_catalog.specs.Columns.{column_kinds}
use Rattle.name_analysis.proofs.rows.rows_made.Given as goal

-- the rows so far
abbrev pub invariant-loop-row : goal.invariant-loop-row
invariant-loop-row l = l.made ≡ rows_made l.catalog (column_kinds l.columns) (take l.row-index l.rows)
