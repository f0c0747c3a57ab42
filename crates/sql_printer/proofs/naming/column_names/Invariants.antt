use Rattle.std.proofs.Common.{◌≡◌, take}
use Rattle.perm_catalog.specs.Columns.{column_names}
use Rattle.sql_printer.proofs.naming.column_names.Given as goal

-- the names of the columns so far
abbrev pub invariant-loop-column : goal.invariant-loop-column
invariant-loop-column l = l.names ≡ column_names (take l.column-index l.columns)
