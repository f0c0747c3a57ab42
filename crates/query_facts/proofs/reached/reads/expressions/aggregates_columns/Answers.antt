use Rattle.std.proofs.Common.{arith}
use Rattle.bag_algebra.specs.declared.query.Aggr.{Aggr}
use Rattle.query_facts.specs.reached.reads.Columns.{option_columns}
use Rattle.query_facts.proofs.Gathered.{none-yet, one-more, all-done}
use Rattle.query_facts.proofs.reached.reads.expressions.aggregates_columns.Goals as goal

pub loop-aggregate-init : goal.loop-aggregate-init
loop-aggregate-init c = none-yet (λ (aggregate : Aggr). option_columns aggregate.argument) c.args.aggregates.now c.args.found

pub loop-aggregate-preserved : goal.loop-aggregate-preserved
loop-aggregate-preserved c =
    one-more (λ (aggregate : Aggr). option_columns aggregate.argument) c.args.aggregates.now c.args.found c.loop-aggregate.aggregate-index c.loop-aggregate.columns c.loop-aggregate.invariant c.aggregate-item.result c.in_ok-columns.columns
    c.loop-aggregate-test.true c.aggregate-item.is c.in_ok-columns.ensures

pub returns : goal.returns
returns c = all-done (λ (aggregate : Aggr). option_columns aggregate.argument) c.args.aggregates.now c.args.found c.loop-aggregate.aggregate-index c.loop-aggregate.columns c.loop-aggregate.invariant (omega arith)
