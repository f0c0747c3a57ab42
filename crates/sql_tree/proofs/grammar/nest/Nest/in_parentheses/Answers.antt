use Rattle.std.proofs.Common.{arith}
use Rattle.sql_tree.proofs.Sequenced.{in_parentheses_is}
use Rattle.sql_tree.proofs.grammar.nest.Nest.in_parentheses.Goals as goal

pub returns-in_err-past-clause-given : goal.returns-in_err-past-clause-given
returns-in_err-past-clause-given g c = grind (arith, in_parentheses_is)

pub returns-in_err-query-clause-given : goal.returns-in_err-query-clause-given
returns-in_err-query-clause-given g c = grind (arith, in_parentheses_is)

pub returns-clause-given : goal.returns-clause-given
returns-clause-given g c = grind (arith, in_parentheses_is)
