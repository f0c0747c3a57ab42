use Rattle.std.proofs.Common.{◌*◌, suc}
use Rattle.bag_algebra.specs.built.Measures.{inputs_size}
use Rattle.bag_algebra.specs.Inputs.{given}
use Rattle.bag_algebra.specs.Measures.{size_of}
use Rattle.delete_impact.proofs.reduced.hiding.+hides_none.Given as goal

abbrev pub decreases-hides_none : goal.decreases-hides_none
decreases-hides_none l = 2 * size_of l.query.now

abbrev pub decreases-inputs_hide_none : goal.decreases-inputs_hide_none
decreases-inputs_hide_none l = suc (2 * inputs_size (given l.inputs))
