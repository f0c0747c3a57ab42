use Rattle.std.proofs.Common.{◌≡◌, take}
use Rattle.name_seen_parts.specs.FromColumns.{known_names}
use Rattle.name_seen_parts.proofs.from_columns.columns.names_of.Given as goal

abbrev pub invariant-loop-column : goal.invariant-loop-column
invariant-loop-column l = l.names ≡ known_names (take l.column-index l.columns)
