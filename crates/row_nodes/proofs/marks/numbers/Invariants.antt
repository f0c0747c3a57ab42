use Rattle.std.proofs.Common.{take}
use Rattle.bag_algebra.specs.Bags.{count}
use Rattle.row_nodes.specs.Marks.{Numbers}
use Rattle.row_nodes.proofs.marks.numbers.Given as goal

abbrev pub invariant-loop-row : goal.invariant-loop-row
invariant-loop-row l = Numbers l.numbers.entries (λ t. count t (take l.row-index l.rows))
