use Rattle.sql_printer.proofs.rows.PrintedValues.{value-printed}
use Rattle.sql_printer.proofs.rows.an_expression_is_read_with_its_value.Goals as goal

pub returns : goal.returns
returns c = λ scopes subs unread u v env other carried given read e kind n h w a.
    value-printed scopes subs unread u v env other carried given read e kind n h w a
