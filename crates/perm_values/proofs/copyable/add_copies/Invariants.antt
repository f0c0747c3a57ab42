use Rattle.std.proofs.Common.{◌≡◌, ◌++◌, take}
use Rattle.perm_values.proofs.copyable.add_copies.Given as goal

abbrev pub invariant-loop-item : goal.invariant-loop-item
invariant-loop-item g l = l.items.items ≡ l.fn.items.items ++ take l.item-index l.more
