use Rattle.bag_algebra.specs.Closed.{option_within}
use Rattle.bag_algebra.specs.declared.query.Aggr.{Aggr}
use Rattle.bag_algebra.proofs.Levels.{SoFar}
use Rattle.query_facts.proofs.reached.outer_rows.farthest_of_aggregates.Given as goal

abbrev pub invariant-loop-aggregate : goal.invariant-loop-aggregate
invariant-loop-aggregate l = SoFar (λ (aggregate : Aggr) n. option_within aggregate.argument n) l.aggregates l.aggregate-index l.level
