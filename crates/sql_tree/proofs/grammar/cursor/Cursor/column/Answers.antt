use Rattle.std.proofs.Common.{arith}
use Rattle.sql_tree.proofs.Steps.{column_of_is}
use Rattle.sql_tree.proofs.grammar.cursor.Cursor.column.Goals as goal

pub returns-in_err-first-clause-given : goal.returns-in_err-first-clause-given
returns-in_err-first-clause-given c = grind (arith, column_of_is)

pub returns-in_err-second-clause-given : goal.returns-in_err-second-clause-given
returns-in_err-second-clause-given c = grind (arith, column_of_is)

pub returns-clause-given : goal.returns-clause-given
returns-clause-given c = grind (arith, column_of_is)
