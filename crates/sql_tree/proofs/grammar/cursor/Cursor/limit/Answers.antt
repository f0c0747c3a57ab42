use Rattle.std.proofs.Common.{arith}
use Rattle.sql_tree.proofs.Queries.{limit_is}
use Rattle.sql_tree.proofs.grammar.cursor.Cursor.limit.Goals as goal

pub returns-in_err-past-clause-given : goal.returns-in_err-past-clause-given
returns-in_err-past-clause-given c = grind (arith, limit_is)

pub returns-in_err-token-clause-given : goal.returns-in_err-token-clause-given
returns-in_err-token-clause-given c = grind (arith, limit_is)

pub returns-in_ok-token-clause-given : goal.returns-in_ok-token-clause-given
returns-in_ok-token-clause-given c = grind (arith, limit_is)

pub returns-else-sees-clause-given : goal.returns-else-sees-clause-given
returns-else-sees-clause-given c = grind (arith, limit_is)
