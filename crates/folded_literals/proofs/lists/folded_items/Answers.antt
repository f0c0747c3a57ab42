use Rattle.bag_algebra.specs.declared.expr.Item.{Item}
use Rattle.contribution.proofs.MovedVariants.{along-next}
use Rattle.query_laws.specs.SameExpressions.{SameItem}
use Rattle.folded_literals.proofs.Settling.{all-more}
use Rattle.folded_literals.specs.Settled.{is_settled}
use Rattle.folded_literals.proofs.lists.folded_items.Goals as goal

pub loop-item-preserved : goal.loop-item-preserved
loop-item-preserved c =
    let made : Item = record { expr = c.in_ok-expr.expr; kind = c.item-item.result.kind } in
    record {
      same = along-next SameItem c.args.items.now c.loop-item.made c.push.new.self c.loop-item.item-index c.item-item.result made
          c.loop-item-test.true c.item-item.is c.loop-item.invariant.same
          (record { kind = λ i. c.item-item.result.kind; expr = c.in_ok-expr.ensures.same }) c.in_ok-push.ensures.ok;
      settled = all-more (λ (item : Item). is_settled item.expr) c.loop-item.made c.push.new.self made c.loop-item.invariant.settled
          c.in_ok-expr.ensures.settled c.in_ok-push.ensures.ok;
    }
