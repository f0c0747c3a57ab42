use Rattle.bag_algebra.specs.Closed.{within_levels}
use Rattle.bag_algebra.specs.declared.expr.Item.{Item}
use Rattle.bag_algebra.proofs.Levels.{SoFar}
use Rattle.query_facts.proofs.reached.outer_rows.farthest_of_items.Given as goal

abbrev pub invariant-loop-item : goal.invariant-loop-item
invariant-loop-item l = SoFar (λ (item : Item) n. within_levels item.expr n) l.items l.item-index l.level
