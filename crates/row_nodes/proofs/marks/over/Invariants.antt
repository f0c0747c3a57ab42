use Rattle.std.proofs.Common.{take}
use Rattle.row_nodes.proofs.Spending.{Spends}
use Rattle.row_nodes.proofs.marks.over.Given as goal

abbrev pub invariant-loop-row : goal.invariant-loop-row
invariant-loop-row l = Spends l.common l.other l.left.entries l.flags (take l.row-index l.rows)
