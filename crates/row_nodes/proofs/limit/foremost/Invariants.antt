use Rattle.std.proofs.Common.{◌≡◌, take, IsSorted}
use Rattle.perm_values.specs.Rows.{printed_cmp}
use Rattle.bag_algebra.specs.Bags.{sorted}
use Rattle.row_nodes.proofs.limit.foremost.Given as goal

abbrev pub invariant-loop-row : goal.invariant-loop-row
invariant-loop-row l = (l.kept ≡ take l.count (sorted (printed_cmp l.keys) (take l.row-index l.rows))) × IsSorted (printed_cmp l.keys) l.kept
