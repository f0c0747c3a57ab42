use Rattle.std.proofs.Common.{◌≡◌, drop}
use Rattle.std.specs.Prelude.{flat_map}
use Rattle.name_meaning.specs.Statements.{row_breaks}
use Rattle.perm_catalog.specs.Columns.{column_kinds}
use Rattle.name_statements.proofs.seen.values.rows_break.Given as goal

-- the rows so far break nothing
abbrev pub invariant-loop-row : goal.invariant-loop-row
invariant-loop-row l =
    flat_map (row_breaks l.catalog (column_kinds l.columns)) l.rows ≡ flat_map (row_breaks l.catalog (column_kinds l.columns)) (drop l.row-index l.rows)
