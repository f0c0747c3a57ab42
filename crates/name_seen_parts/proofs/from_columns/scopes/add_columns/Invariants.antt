use Rattle.std.proofs.Common.{◌≡◌, ◌++◌, take}
use Rattle.name_meaning.specs.Froms.{table_columns}
use Rattle.name_meaning.specs.Scopes.{numbered_columns}
use Rattle.name_seen_parts.proofs.from_columns.scopes.add_columns.Given as goal

abbrev pub invariant-loop-column : goal.invariant-loop-column
invariant-loop-column l = l.found ≡ l.initial.found ++ numbered_columns l.number (table_columns (take l.column-index l.columns))
