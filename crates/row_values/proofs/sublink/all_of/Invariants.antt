use Rattle.std.proofs.Common.{◌≡◌, take}
use Rattle.bag_algebra.specs.Means.{all_of, comparisons}
use Rattle.row_values.proofs.sublink.all_of.Given as goal

abbrev pub invariant-loop-row : goal.invariant-loop-row
invariant-loop-row l = l.truth ≡ all_of (comparisons l.compare l.tested (take l.row-index l.rows))
