use Rattle.std.proofs.Common.{arith}
use Rattle.sql_tree.proofs.Queries.{mark_is}
use Rattle.sql_tree.proofs.grammar.cursor.Cursor.mark.Goals as goal

pub returns-in_err-past-clause-given : goal.returns-in_err-past-clause-given
returns-in_err-past-clause-given c = grind (arith, mark_is)

pub returns-in_ok-past-clause-given : goal.returns-in_ok-past-clause-given
returns-in_ok-past-clause-given c = grind (arith, mark_is)

pub returns-in_err-attributes-clause-given : goal.returns-in_err-attributes-clause-given
returns-in_err-attributes-clause-given c = grind (arith, mark_is)

pub returns-in_ok-attributes-clause-given : goal.returns-in_ok-attributes-clause-given
returns-in_ok-attributes-clause-given c = grind (arith, mark_is)

pub returns-else-sees-2-clause-given : goal.returns-else-sees-2-clause-given
returns-else-sees-2-clause-given c = grind (arith, mark_is)
