use Rattle.std.proofs.Common.{◌*◌, suc}
use Rattle.bag_algebra.specs.built.Measures.{inputs_size}
use Rattle.bag_algebra.specs.Inputs.{given}
use Rattle.bag_algebra.specs.Measures.{size_of}
use Rattle.delete_impact.proofs.reduced.splitting.+splits.Given as goal

abbrev pub decreases-splits : goal.decreases-splits
decreases-splits l = 2 * size_of l.query.now

abbrev pub decreases-inputs_split : goal.decreases-inputs_split
decreases-inputs_split l = suc (2 * inputs_size (given l.inputs))
