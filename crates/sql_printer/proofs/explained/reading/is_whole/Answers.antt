use Rattle.std.proofs.Common.{subst}
use Rattle.sql_printer.specs.explained.Reading.{PlainText}
use Rattle.sql_printer.proofs.explained.ReadBack.{whole-text}
use Rattle.sql_printer.proofs.explained.reading.is_whole.Goals as goal

pub returns-in-Ok : goal.returns-in-Ok
returns-in-Ok c = λ is.
    whole-text c.args.catalog.now c.args.text.now c.in-Some.statement (subst (PlainText c.args.text.now) c.in-Some.is c.in_ok-statement.ensures)
    c.in-Ok.resolved c.in-Ok.ensures.resolves
