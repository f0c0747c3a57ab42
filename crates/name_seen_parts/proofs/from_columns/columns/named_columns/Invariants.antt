use Rattle.std.proofs.Common.{◌≡◌, take}
use Rattle.name_meaning.specs.Froms.{named_columns, table_columns}
use Rattle.name_seen_parts.proofs.from_columns.columns.named_columns.Given as goal

abbrev pub invariant-loop-at : goal.invariant-loop-at
invariant-loop-at l = table_columns l.columns ≡ take l.at (named_columns l.names l.kinds)
