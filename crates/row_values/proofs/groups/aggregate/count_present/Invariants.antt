use Rattle.std.proofs.Common.{◌≡◌, ◌≤◌, length, take}
use Rattle.bag_algebra.specs.Means.{present}
use Rattle.row_values.proofs.groups.aggregate.count_present.Given as goal

abbrev pub invariant-loop-value : goal.invariant-loop-value
invariant-loop-value l = (l.count ≡ length (present (take l.value-index l.values))) × (l.count ≤ l.value-index)
