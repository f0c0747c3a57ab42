use Rattle.std.proofs.Common.{◌≡◌, take}
use Rattle.bag_algebra.specs.Means.{some_of, comparisons}
use Rattle.row_values.proofs.sublink.some_of.Given as goal

abbrev pub invariant-loop-row : goal.invariant-loop-row
invariant-loop-row l = l.truth ≡ some_of (comparisons l.compare l.tested (take l.row-index l.rows))
