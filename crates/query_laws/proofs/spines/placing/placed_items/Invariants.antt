use Rattle.std.proofs.Common.{take}
use Rattle.query_laws.specs.spines.PlacedColumns.{ItemsPlaced}
use Rattle.query_laws.proofs.spines.placing.placed_items.Given as goal

abbrev pub invariant-loop-item : goal.invariant-loop-item
invariant-loop-item l = ItemsPlaced l.items (take l.item-index l.others) l.made
