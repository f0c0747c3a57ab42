use Rattle.std.proofs.Common.{◌≡◌, drop}
use Rattle.bag_algebra.specs.Expressions.{coalesce}
use Rattle.row_values.proofs.operate.coalesce.Given as goal

-- the values so far are NULL
abbrev pub invariant-loop-value : goal.invariant-loop-value
invariant-loop-value l = coalesce l.values ≡ coalesce (drop l.value-index l.values)
