use Rattle.std.proofs.Common.{arith}
use Rattle.sql_tree.proofs.Steps.{qualified_is}
use Rattle.sql_tree.proofs.grammar.cursor.Cursor.name_behind_dot.Goals as goal

pub returns-in_err-past-clause-given : goal.returns-in_err-past-clause-given
returns-in_err-past-clause-given c = grind (arith, qualified_is)

pub returns-in_err-name-clause-given : goal.returns-in_err-name-clause-given
returns-in_err-name-clause-given c = grind (arith, qualified_is)

pub returns-in_ok-name-clause-given : goal.returns-in_ok-name-clause-given
returns-in_ok-name-clause-given c = grind (arith, qualified_is)

pub returns-else-sees-clause-given : goal.returns-else-sees-clause-given
returns-else-sees-clause-given c = grind (arith, qualified_is)
