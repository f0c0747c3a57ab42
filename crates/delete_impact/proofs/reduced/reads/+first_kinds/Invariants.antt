use Rattle.std.proofs.Common.{◌*◌, suc}
use Rattle.bag_algebra.specs.built.Measures.{inputs_size}
use Rattle.bag_algebra.specs.Inputs.{given}
use Rattle.bag_algebra.specs.Measures.{size_of}
use Rattle.delete_impact.proofs.reduced.reads.+first_kinds.Given as goal

abbrev pub decreases-first_kinds : goal.decreases-first_kinds
decreases-first_kinds l = 2 * size_of l.query.now

abbrev pub decreases-first_of : goal.decreases-first_of
decreases-first_of l = suc (2 * inputs_size (given l.inputs))
