use Rattle.bag_algebra.specs.declared.query.Aggr.{Aggr}
use Rattle.query_facts.specs.reached.Reach.{option_reach}
use Rattle.query_facts.proofs.Greatest.{SoFar}
use Rattle.query_facts.proofs.reached.columns.aggregates_reach.Given as goal

abbrev pub invariant-loop-aggregate : goal.invariant-loop-aggregate
invariant-loop-aggregate l = SoFar (λ n (aggregate : Aggr). option_reach aggregate.argument n) l.aggregates l.level l.aggregate-index l.reach
