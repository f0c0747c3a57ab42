use Rattle.std.specs.List.{AllByRecursion}
use Rattle.sql_printer.specs.forms.Printable.{AreCharacters}
use Rattle.sql_printer.proofs.forms.OpenedExpressions.{owed-here}
use Rattle.sql_printer.proofs.forms.characters.see_tables.Goals as goal

pub loop-table-preserved : goal.loop-table-preserved
loop-table-preserved c = λ rest.
    owed-here (AllByRecursion AreCharacters) c.args.tables.now c.loop-table.table-index c.table-item.result c.loop-table-test.true c.table-item.is
    c.loop-table.invariant (c.see_table.ensures, rest)
