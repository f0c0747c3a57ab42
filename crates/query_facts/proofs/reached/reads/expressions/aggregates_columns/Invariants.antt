use Rattle.bag_algebra.specs.declared.query.Aggr.{Aggr}
use Rattle.query_facts.specs.reached.reads.Columns.{option_columns}
use Rattle.query_facts.proofs.Gathered.{SoFar}
use Rattle.query_facts.proofs.reached.reads.expressions.aggregates_columns.Given as goal

abbrev pub invariant-loop-aggregate : goal.invariant-loop-aggregate
invariant-loop-aggregate l = SoFar (λ (aggregate : Aggr). option_columns aggregate.argument) l.aggregates l.fn.found l.aggregate-index l.columns
