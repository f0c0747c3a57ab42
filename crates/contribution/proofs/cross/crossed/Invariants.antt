use Rattle.std.proofs.Common.{◌≡◌, ◌≤◌, length, take}
use Rattle.bag_algebra.specs.declared.query.Query.TheVariants.{Single}
use Rattle.contribution.proofs.cross.crossed.Given as goal
use Rattle.contribution.specs.CrossBase.{crossed}

-- the sources in front, before those that are joined already
abbrev pub invariant-loop-at : goal.invariant-loop-at
invariant-loop-at l = (crossed (take l.at l.sources) l.whole ≡ crossed l.sources Single) × (l.at ≤ length l.sources)

abbrev pub decreases-loop-at : goal.decreases-loop-at
decreases-loop-at l = l.at
