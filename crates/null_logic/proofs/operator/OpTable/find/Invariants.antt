use Rattle.std.proofs.Common.{◌≡◌, drop}
use Rattle.null_logic.specs.Operators.{row_of}
use Rattle.null_logic.proofs.operator.OpTable.find.Given as goal

-- no row so far has the key
abbrev pub invariant-loop-row : goal.invariant-loop-row
invariant-loop-row g l = row_of l.self.rows l.spelling l.prefix ≡ row_of (drop l.row-index l.self.rows) l.spelling l.prefix
