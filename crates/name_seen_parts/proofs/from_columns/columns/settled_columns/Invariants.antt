use Rattle.std.proofs.Common.{◌≡◌, take}
use Rattle.name_meaning.specs.Froms.{settled_columns, table_columns}
use Rattle.name_seen_parts.specs.Columns.{columns_of}
use Rattle.name_seen_parts.proofs.from_columns.columns.settled_columns.Given as goal

abbrev pub invariant-loop-column : goal.invariant-loop-column
invariant-loop-column l = table_columns l.found ≡ settled_columns (columns_of (take l.column-index l.columns))
