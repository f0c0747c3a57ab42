use Rattle.std.proofs.Common.{◌*◌, suc}
use Rattle.bag_algebra.specs.built.Measures.{inputs_size, subs_size}
use Rattle.bag_algebra.specs.Inputs.{given}
use Rattle.bag_algebra.specs.Measures.{size_of}
use Rattle.plain_queries.proofs.alike.+same_query.Given as goal

abbrev pub decreases-same_query : goal.decreases-same_query
decreases-same_query l = 2 * size_of l.one.now

abbrev pub decreases-same_inputs : goal.decreases-same_inputs
decreases-same_inputs l = suc (2 * inputs_size (given l.one))

abbrev pub decreases-same_sublinks : goal.decreases-same_sublinks
decreases-same_sublinks l = suc (2 * subs_size l.one.now)
