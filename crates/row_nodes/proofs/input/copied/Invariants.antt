use Rattle.std.proofs.Common.{◌≡◌, take}
use Rattle.row_nodes.proofs.input.copied.Given as goal

abbrev pub invariant-loop-row : goal.invariant-loop-row
invariant-loop-row l = l.copies ≡ take l.row-index l.rows
