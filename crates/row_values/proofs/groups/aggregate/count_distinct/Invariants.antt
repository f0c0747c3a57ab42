use Rattle.std.proofs.Common.{take}
use Rattle.bag_algebra.specs.Means.{present}
use Rattle.row_values.proofs.Totals.{Held}
use Rattle.row_values.proofs.groups.aggregate.count_distinct.Given as goal

abbrev pub invariant-loop-value : goal.invariant-loop-value
invariant-loop-value l = Held l.seen.keys (present (take l.value-index l.values))
