use Rattle.std.proofs.Common.{◌≡◌, [], drop, take}
use mathlib.Core.List.{reverse}
use Rattle.name_meaning.specs.Statements.{repeated_columns}
use Rattle.name_statements.specs.Earlier.{texts_of}
use Rattle.name_statements.proofs.seen.names.repeated_among.Given as goal

-- the columns so far have names of their own
abbrev pub invariant-loop-at : goal.invariant-loop-at
invariant-loop-at l = repeated_columns [] l.columns ≡ repeated_columns (reverse (texts_of (take l.at l.columns))) (drop l.at l.columns)
