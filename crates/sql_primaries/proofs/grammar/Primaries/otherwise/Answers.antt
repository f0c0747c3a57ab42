use Rattle.std.proofs.Common.{arith}
use Rattle.sql_tree.proofs.Steps.{otherwise_is}
use Rattle.sql_primaries.proofs.grammar.Primaries.otherwise.Goals as goal

pub returns-in_err-past-clause-given : goal.returns-in_err-past-clause-given
returns-in_err-past-clause-given g c = grind (arith, otherwise_is)

pub returns-in_err-expression-clause-given : goal.returns-in_err-expression-clause-given
returns-in_err-expression-clause-given g c = grind (arith, otherwise_is)

pub returns-clause-given : goal.returns-clause-given
returns-clause-given g c = grind (arith, otherwise_is)
