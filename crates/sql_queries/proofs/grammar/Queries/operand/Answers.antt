use Rattle.std.proofs.Common.{arith}
use Rattle.sql_tree.proofs.Queries.{operand_is}
use Rattle.sql_queries.proofs.grammar.Queries.operand.Goals as goal

pub returns-in_err-core-clause-given : goal.returns-in_err-core-clause-given
returns-in_err-core-clause-given g c = grind (arith, operand_is)

pub returns-in_ok-new-clause-given : goal.returns-in_ok-new-clause-given
returns-in_ok-new-clause-given g c = grind (arith, operand_is)

pub returns-else-sees-clause-given : goal.returns-else-sees-clause-given
returns-else-sees-clause-given g c = grind (arith, operand_is)
