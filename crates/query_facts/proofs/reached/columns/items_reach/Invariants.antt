use Rattle.bag_algebra.specs.declared.expr.Item.{Item}
use Rattle.query_facts.specs.reached.Reach.{expr_reach}
use Rattle.query_facts.proofs.Greatest.{SoFar}
use Rattle.query_facts.proofs.reached.columns.items_reach.Given as goal

abbrev pub invariant-loop-item : goal.invariant-loop-item
invariant-loop-item l = SoFar (λ n (item : Item). expr_reach item.expr n) l.items l.level l.item-index l.reach
