use Rattle.sql_printer.proofs.expressions.ReadScopes.{finds}
use Rattle.sql_printer.proofs.expressions.columns_are_found_by_their_printed_names.Goals as goal

pub returns : goal.returns
returns c = finds
