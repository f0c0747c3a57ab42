use Rattle.std.proofs.Common.{arith}
use Rattle.bag_algebra.specs.declared.expr.Item.{Item}
use Rattle.query_facts.specs.reached.reads.Columns.{expr_columns}
use Rattle.query_facts.proofs.Gathered.{none-yet, one-more, all-done}
use Rattle.query_facts.proofs.reached.reads.expressions.items_columns.Goals as goal

pub loop-item-init : goal.loop-item-init
loop-item-init c = none-yet (λ (item : Item). expr_columns item.expr) c.args.items.now c.args.found

pub loop-item-preserved : goal.loop-item-preserved
loop-item-preserved c =
    one-more (λ (item : Item). expr_columns item.expr) c.args.items.now c.args.found c.loop-item.item-index c.loop-item.columns c.loop-item.invariant c.item-item.result c.in_ok-columns.columns
    c.loop-item-test.true c.item-item.is c.in_ok-columns.ensures

pub returns : goal.returns
returns c = all-done (λ (item : Item). expr_columns item.expr) c.args.items.now c.args.found c.loop-item.item-index c.loop-item.columns c.loop-item.invariant (omega arith)
