use Rattle.std.proofs.Common.{arith}
use Rattle.bag_algebra.specs.Closed.{within_levels}
use Rattle.bag_algebra.specs.declared.expr.Item.{Item}
use Rattle.bag_algebra.proofs.Levels.{from_none, one-more, all-done}
use Rattle.query_facts.proofs.reached.outer_rows.farthest_of_items.Goals as goal

pub loop-item-init : goal.loop-item-init
loop-item-init c = from_none (λ (item : Item) n. within_levels item.expr n) c.args.items.now

pub loop-item-preserved : goal.loop-item-preserved
loop-item-preserved c =
    one-more (λ (item : Item) n. within_levels item.expr n) c.args.items.now c.loop-item.item-index c.loop-item.level c.loop-item.invariant c.item-item.result c.farthest.result _
    c.loop-item-test.true c.item-item.is c.farthest.ensures c.max-level.ensures

pub returns : goal.returns
returns c = all-done (λ (item : Item) n. within_levels item.expr n) c.args.items.now c.loop-item.item-index c.loop-item.level c.loop-item.invariant (omega arith)
