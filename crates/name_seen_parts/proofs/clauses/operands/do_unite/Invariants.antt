use Rattle.std.proofs.Common.{◌≡◌, drop}
use Rattle.name_meaning.specs.Queries.{do_unite}
use Rattle.name_seen_parts.specs.Columns.{columns_of}
use Rattle.name_seen_parts.proofs.clauses.operands.do_unite.Given as goal

-- the columns so far unite
abbrev pub invariant-loop-at : goal.invariant-loop-at
invariant-loop-at l = do_unite (columns_of l.left) (columns_of l.right) ≡ do_unite (columns_of (drop l.at l.left)) (columns_of (drop l.at l.right))
