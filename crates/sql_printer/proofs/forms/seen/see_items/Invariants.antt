use Rattle.std.proofs.Common.{drop}
use Rattle.sql_printer.specs.rows.Writable.{WritableItems}
use Rattle.sql_printer.proofs.forms.seen.see_items.Given as goal

-- all can be written where those that are left can
abbrev pub invariant-loop-item : goal.invariant-loop-item
invariant-loop-item l = WritableItems (drop l.item-index l.items) → WritableItems l.items
