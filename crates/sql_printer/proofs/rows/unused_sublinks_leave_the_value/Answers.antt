use Rattle.sql_printer.proofs.rows.PrintedValues.{beside-value}
use Rattle.sql_printer.proofs.rows.unused_sublinks_leave_the_value.Goals as goal

pub returns : goal.returns
returns c = beside-value
