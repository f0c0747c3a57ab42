use Rattle.std.proofs.Common.{◌*◌, suc}
use Rattle.bag_algebra.specs.built.Measures.{inputs_size}
use Rattle.bag_algebra.specs.Inputs.{given}
use Rattle.bag_algebra.specs.Measures.{size_of}
use Rattle.query_facts.proofs.monotone.+is_monotone.Given as goal

abbrev pub decreases-is_monotone : goal.decreases-is_monotone
decreases-is_monotone l = 2 * size_of l.query.now

abbrev pub decreases-inputs_monotone : goal.decreases-inputs_monotone
decreases-inputs_monotone l = suc (2 * inputs_size (given l.inputs))
