use Rattle.bag_algebra.specs.Measures.{size_of}
use Rattle.query_facts.proofs.spines.dropped.let_go_along.Given as goal

abbrev pub decreases-down : goal.decreases-down
decreases-down l = size_of l.rest
