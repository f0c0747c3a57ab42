use Rattle.contribution.proofs.MovedVariants.{along-next}
use Rattle.query_laws.specs.spines.PlacedColumns.{ItemPlaced}
use Rattle.query_laws.proofs.spines.placing.placed_items.Goals as goal

pub loop-item-preserved : goal.loop-item-preserved
loop-item-preserved c =
    along-next (ItemPlaced c.args.items.now) c.args.others.now c.loop-item.made c.push.new.self c.loop-item.item-index c.item-item.result
    (record { expr = c.in_ok-expr.expr; kind = c.item-item.result.kind })
    c.loop-item-test.true c.item-item.is c.loop-item.invariant (record { kind = λ i. c.item-item.result.kind; expr = c.in_ok-expr.ensures }) c.in_ok-push.ensures.ok
