use Rattle.std.proofs.Common.{◌≡◌, take, drop}
use Rattle.std.specs.Prelude.{◌++◌}
use Rattle.name_meaning.specs.Queries.{united_columns}
use Rattle.name_seen_parts.specs.Columns.{columns_of}
use Rattle.name_seen_parts.proofs.clauses.operands.unite.Given as goal

-- the columns so far are united, and those behind them as they were
abbrev pub invariant-loop-at : goal.invariant-loop-at
invariant-loop-at l =
    united_columns (columns_of l.fn.left) (columns_of l.right) ≡ columns_of (take l.at l.left) ++ united_columns (columns_of (drop l.at l.left)) (columns_of (drop l.at l.right))
