use Rattle.sql_printer.specs.rows.Writable.{WritableItems}
use Rattle.sql_printer.proofs.forms.OpenedExpressions.{owed-here}
use Rattle.sql_printer.proofs.forms.seen.see_items.Goals as goal

pub loop-item-preserved : goal.loop-item-preserved
loop-item-preserved c = λ rest.
    owed-here WritableItems c.args.items.now c.loop-item.item-index c.item-item.result c.loop-item-test.true c.item-item.is c.loop-item.invariant
    (c.see.ensures, rest)
