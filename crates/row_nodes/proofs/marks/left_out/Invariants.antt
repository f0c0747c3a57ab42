use Rattle.std.proofs.Common.{take}
use Rattle.bag_algebra.specs.Bags.{Bag}
use Rattle.row_nodes.specs.Marks.{Holds}
use Rattle.row_nodes.proofs.Seeing.{Sees}
use Rattle.row_nodes.proofs.marks.left_out.Given as goal

abbrev pub invariant-loop-row : goal.invariant-loop-row
invariant-loop-row l = (vs : Bag) → Holds l.other.keys vs → Sees l.common vs l.seen.keys l.flags (take l.row-index l.rows)
