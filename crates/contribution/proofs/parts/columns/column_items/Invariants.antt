use Rattle.std.proofs.Common.{◌≡◌, take}
use Rattle.bag_algebra.specs.ColumnItems.{column_items}
use Rattle.contribution.proofs.parts.columns.column_items.Given as goal

abbrev pub invariant-loop-place : goal.invariant-loop-place
invariant-loop-place l = l.items ≡ column_items l.kinds (take l.place-index l.order)
