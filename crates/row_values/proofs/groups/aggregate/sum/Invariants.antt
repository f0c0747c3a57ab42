use Rattle.std.proofs.Common.{◌≡◌, ◌*◌, ◌^◌, take, pos, neg_ℤ, ◌≤ℤ◌}
use Rattle.bag_algebra.specs.Means.{total}
use Rattle.row_values.proofs.groups.aggregate.sum.Given as goal

abbrev pub invariant-loop-value : goal.invariant-loop-value
invariant-loop-value l = (l.total ≡ total (take l.value-index l.values)) × (neg_ℤ (pos (2 ^ 63 * l.value-index)) ≤ℤ l.total) × (l.total ≤ℤ pos (2 ^ 63 * l.value-index))
