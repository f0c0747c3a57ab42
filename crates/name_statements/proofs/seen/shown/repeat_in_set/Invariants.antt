use Rattle.std.proofs.Common.{◌≡◌, false, take}
use Rattle.name_seen_parts.specs.Columns.{columns_of}
use Rattle.name_meaning.specs.Froms.{names_of, settled_columns}
use Rattle.name_meaning.specs.Statements.{repeats}
use Rattle.name_statements.proofs.seen.shown.repeat_in_set.Given as goal

-- the names so far, each of its own
abbrev pub invariant-loop-column : goal.invariant-loop-column
invariant-loop-column l = record {
  names : l.names.known.keys ≡ names_of (settled_columns (columns_of (take l.column-index l.columns)));
  apart : repeats (names_of (settled_columns (columns_of (take l.column-index l.columns)))) ≡ false;
}
