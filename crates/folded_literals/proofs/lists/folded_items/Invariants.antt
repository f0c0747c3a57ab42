use Rattle.std.proofs.Common.{◌≡◌, true, take}
use Rattle.contribution.specs.MovedColumns.{Along}
use Rattle.query_laws.specs.EveryExpression.{items_pass}
use Rattle.query_laws.specs.SameExpressions.{SameItem}
use Rattle.folded_literals.specs.Settled.{is_settled}
use Rattle.folded_literals.proofs.lists.folded_items.Given as goal

abbrev pub invariant-loop-item : goal.invariant-loop-item
invariant-loop-item l = record { same : Along SameItem (take l.item-index l.items) l.made; settled : items_pass is_settled l.made ≡ true }
