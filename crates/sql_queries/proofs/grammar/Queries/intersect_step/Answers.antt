use Rattle.std.proofs.Common.{arith}
use Rattle.sql_tree.proofs.Queries.{intersect_is}
use Rattle.sql_queries.proofs.grammar.Queries.intersect_step.Goals as goal

pub returns-in_err-past-clause-given : goal.returns-in_err-past-clause-given
returns-in_err-past-clause-given g c = grind (arith, intersect_is)

pub returns-in_err-all-clause-given : goal.returns-in_err-all-clause-given
returns-in_err-all-clause-given g c = grind (arith, intersect_is)

pub returns-in_err-operand-clause-given : goal.returns-in_err-operand-clause-given
returns-in_err-operand-clause-given g c = grind (arith, intersect_is)

pub returns-clause-given : goal.returns-clause-given
returns-clause-given g c = grind (arith, intersect_is)
