use Rattle.std.proofs.Common.{arith}
use Rattle.sql_tree.proofs.Steps.{compared_is}
use Rattle.sql_levels.proofs.predicates.Predicates.compared.Goals as goal

pub returns-in_err-part-clause-given : goal.returns-in_err-part-clause-given
returns-in_err-part-clause-given g c = grind (arith, compared_is)

pub returns-in_err-tail-clause-given : goal.returns-in_err-tail-clause-given
returns-in_err-tail-clause-given g c = grind (arith, compared_is)

pub returns-clause-given : goal.returns-clause-given
returns-clause-given g c = grind (arith, compared_is)
