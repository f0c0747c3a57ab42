use Rattle.std.proofs.Common.{◌≡◌, drop}
use Rattle.bag_algebra.specs.FaultFree.{aggregates_faultless}
use Rattle.bag_algebra.proofs.measures.faults.aggregates_faultless.Given as goal

abbrev pub invariant-loop-aggregate : goal.invariant-loop-aggregate
invariant-loop-aggregate l = aggregates_faultless l.aggregates ≡ aggregates_faultless (drop l.aggregate-index l.aggregates)
