use Rattle.std.proofs.Common.{take}
use Rattle.row_nodes.specs.Marks.{Holds}
use Rattle.row_nodes.proofs.marks.row_set.Given as goal

abbrev pub invariant-loop-row : goal.invariant-loop-row
invariant-loop-row l = Holds l.set.keys (take l.row-index l.rows)
