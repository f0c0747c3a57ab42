use Rattle.std.proofs.Common.{◌≡◌, drop}
use Rattle.name_seen_parts.specs.Columns.{columns_of}
use Rattle.name_meaning.specs.Froms.{names_of, settled_columns}
use Rattle.name_meaning.specs.Statements.{repeats}
use Rattle.name_statements.proofs.seen.shown.repeat_in_pairs.Given as goal

-- no name of those so far comes again
abbrev pub invariant-loop-at : goal.invariant-loop-at
invariant-loop-at l = repeats (names_of (settled_columns (columns_of l.columns))) ≡ repeats (names_of (settled_columns (columns_of (drop l.at l.columns))))
