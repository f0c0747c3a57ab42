use Rattle.std.proofs.Common.{◌≡◌, drop}
use Rattle.name_meaning.specs.Statements.{values_breaks}
use Rattle.perm_catalog.specs.Columns.{column_kinds}
use Rattle.name_statements.proofs.seen.values.values_break.Given as goal

-- the values so far break nothing
abbrev pub invariant-loop-at : goal.invariant-loop-at
invariant-loop-at l =
    values_breaks l.here.catalog.now (column_kinds l.columns) l.values
    ≡ values_breaks l.here.catalog.now (column_kinds (drop l.at l.columns)) (drop l.at l.values)
