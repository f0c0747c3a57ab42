use Rattle.std.proofs.Common.{◌≡◌, take}
use Rattle.null_logic.specs.Comparison.{in_list}
use Rattle.row_values.proofs.operate.in_list.Given as goal

abbrev pub invariant-loop-other : goal.invariant-loop-other
invariant-loop-other l = l.truth ≡ in_list l.value (take l.other-index l.list)
