use Rattle.std.proofs.Common.{◌≡◌, take}
use Rattle.name_meaning.specs.Froms.{table_columns}
use Rattle.name_meaning.specs.Scopes.{numbered_columns}
use Rattle.name_statements.proofs.seen.conditions.numbered.Given as goal

-- those so far
abbrev pub invariant-loop-column : goal.invariant-loop-column
invariant-loop-column l = l.numbered ≡ numbered_columns 0 (table_columns (take l.column-index l.columns))
