use Rattle.std.proofs.Common.{◌≡◌, [], drop, take}
use mathlib.Core.List.{reverse}
use Rattle.name_meaning.specs.Statements.{repeated_columns}
use Rattle.name_statements.specs.Earlier.{texts_of}
use Rattle.name_statements.proofs.seen.names.first_repeated.Given as goal

-- the names so far, none of which is one of those before it
abbrev pub invariant-loop-column : goal.invariant-loop-column
invariant-loop-column l = record {
  names : l.names.known.keys ≡ texts_of (take l.column-index l.columns);
  rest : repeated_columns [] l.columns
      ≡ repeated_columns (reverse (texts_of (take l.column-index l.columns))) (drop l.column-index l.columns);
}
