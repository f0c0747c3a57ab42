use Rattle.std.proofs.Common.{◌≡◌, ◌++◌, map, take}
use Rattle.bag_algebra.specs.declared.expr.Item.{Item}
use Rattle.contribution.proofs.places.add_item_kinds.Given as goal

abbrev pub invariant-loop-item : goal.invariant-loop-item
invariant-loop-item l = l.found ≡ l.initial.found ++ map (λ (item : Item). item.kind) (take l.item-index l.items)
