use Rattle.std.proofs.Common.{arith}
use Rattle.sql_tree.proofs.Queries.{union_is}
use Rattle.sql_queries.proofs.grammar.Queries.union_step.Goals as goal

pub returns-in_err-token-clause-given : goal.returns-in_err-token-clause-given
returns-in_err-token-clause-given g c = grind (arith, union_is)

pub returns-in_err-all-clause-given : goal.returns-in_err-all-clause-given
returns-in_err-all-clause-given g c = grind (arith, union_is)

pub returns-in_err-operand-clause-given : goal.returns-in_err-operand-clause-given
returns-in_err-operand-clause-given g c = grind (arith, union_is)

pub returns-clause-given : goal.returns-clause-given
returns-clause-given g c = grind (arith, union_is)
