use Rattle.sql_printer.proofs.explained.ReadBack.{asked}
use Rattle.sql_printer.proofs.explained.reading.asking.Goals as goal

pub returns-in-Select : goal.returns-in-Select
returns-in-Select c = asked c.args.statement c.in-Select.query c.in-Select.is
