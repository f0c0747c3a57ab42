use Rattle.sql_printer.proofs.explained.ReadBack.{only}
use Rattle.sql_printer.proofs.explained.reading.only_query.Goals as goal

pub returns-in-Some : goal.returns-in-Some
returns-in-Some c =
    only c.args.script.statements c.pop-last.new.self c.in-Some.statement c.asking.result c.in-Some.ensures
    (c.is_empty-is_only.ensures.0 c.if-is_only.true) c.asking.ensures
