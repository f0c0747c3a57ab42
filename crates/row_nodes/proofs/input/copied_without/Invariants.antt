use Rattle.std.proofs.Common.{◌≡◌, take}
use Rattle.perm_values.specs.Marked.{unmarked}
use Rattle.row_nodes.proofs.input.copied_without.Given as goal

abbrev pub invariant-loop-i : goal.invariant-loop-i
invariant-loop-i l = l.copies ≡ unmarked (take l.i l.doomed) (take l.i l.rows)
