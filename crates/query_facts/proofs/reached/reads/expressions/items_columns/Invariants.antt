use Rattle.bag_algebra.specs.declared.expr.Item.{Item}
use Rattle.query_facts.specs.reached.reads.Columns.{expr_columns}
use Rattle.query_facts.proofs.Gathered.{SoFar}
use Rattle.query_facts.proofs.reached.reads.expressions.items_columns.Given as goal

abbrev pub invariant-loop-item : goal.invariant-loop-item
invariant-loop-item l = SoFar (λ (item : Item). expr_columns item.expr) l.items l.fn.found l.item-index l.columns
