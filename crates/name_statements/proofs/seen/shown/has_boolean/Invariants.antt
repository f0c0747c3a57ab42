use Rattle.std.proofs.Common.{◌≡◌, drop}
use Rattle.name_seen_parts.specs.Columns.{columns_of}
use Rattle.name_meaning.specs.Froms.{settled_columns}
use Rattle.name_meaning.specs.Statements.{has_boolean}
use Rattle.name_statements.proofs.seen.shown.has_boolean.Given as goal

-- none of those so far holds truths
abbrev pub invariant-loop-column : goal.invariant-loop-column
invariant-loop-column l =
    has_boolean (settled_columns (columns_of l.columns)) ≡ has_boolean (settled_columns (columns_of (drop l.column-index l.columns)))
