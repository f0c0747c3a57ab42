use Rattle.std.proofs.Common.{refl, arith}
use Rattle.bag_algebra.specs.declared.expr.Item.{Item}
use Rattle.query_facts.specs.reached.Reach.{expr_reach}
use Rattle.query_facts.proofs.Greatest.{one-more, all-done}
use Rattle.query_facts.proofs.reached.columns.items_reach.Goals as goal

pub loop-item-init : goal.loop-item-init
loop-item-init c = λ n h. refl

pub loop-item-preserved : goal.loop-item-preserved
loop-item-preserved c =
    one-more (λ n (item : Item). expr_reach item.expr n) c.args.items.now c.args.level c.loop-item.item-index c.loop-item.reach c.loop-item.invariant c.item-item.result c.expr_reach.result c.further-reach.result
    c.loop-item-test.true c.item-item.is c.expr_reach.ensures c.further-reach.ensures

pub returns : goal.returns
returns c = all-done (λ n (item : Item). expr_reach item.expr n) c.args.items.now c.args.level c.loop-item.item-index c.loop-item.reach c.loop-item.invariant (omega arith)
