use Rattle.std.proofs.Common.{◌≡◌, take}
use Rattle.name_meaning.specs.Froms.{names_of, settled_columns}
use Rattle.name_seen_parts.specs.Columns.{columns_of}
use Rattle.name_made_parts.proofs.shown.column_names.Given as goal

abbrev pub invariant-loop-column : goal.invariant-loop-column
invariant-loop-column l = l.names ≡ names_of (settled_columns (columns_of (take l.column-index l.columns)))
