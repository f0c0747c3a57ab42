use Rattle.bag_algebra.specs.declared.query.Aggr.{Aggr}
use Rattle.contribution.proofs.MovedVariants.{along-next}
use Rattle.query_laws.specs.EveryExpression.{option_passes}
use Rattle.query_laws.specs.SameExpressions.{SameAggregate}
use Rattle.folded_literals.proofs.Settling.{all-more}
use Rattle.folded_literals.specs.Settled.{is_settled}
use Rattle.folded_literals.proofs.lists.folded_aggregates.Goals as goal

pub loop-aggregate-preserved : goal.loop-aggregate-preserved
loop-aggregate-preserved c =
    let made : Aggr = record { function = c.aggregate-item.result.function; argument = c.in_ok-argument.argument; kind = c.aggregate-item.result.kind } in
    record {
      same = along-next SameAggregate c.args.aggregates.now c.loop-aggregate.made c.push.new.self c.loop-aggregate.aggregate-index c.aggregate-item.result made
          c.loop-aggregate-test.true c.aggregate-item.is c.loop-aggregate.invariant.same
          (record { function = λ i. c.aggregate-item.result.function; kind = λ i. c.aggregate-item.result.kind; argument = c.in_ok-argument.ensures.same })
          c.in_ok-push.ensures.ok;
      settled = all-more (λ (aggregate : Aggr). option_passes is_settled aggregate.argument) c.loop-aggregate.made c.push.new.self made
          c.loop-aggregate.invariant.settled c.in_ok-argument.ensures.settled c.in_ok-push.ensures.ok;
    }
