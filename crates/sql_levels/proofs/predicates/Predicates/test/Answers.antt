use Rattle.std.proofs.Common.{arith}
use Rattle.sql_tree.proofs.Steps.{test_is}
use Rattle.sql_levels.proofs.predicates.Predicates.test.Goals as goal

pub returns-in_err-part-clause-given : goal.returns-in_err-part-clause-given
returns-in_err-part-clause-given g c = grind (arith, test_is)

pub returns-in_err-negated-clause-given : goal.returns-in_err-negated-clause-given
returns-in_err-negated-clause-given g c = grind (arith, test_is)

pub returns-clause-given : goal.returns-clause-given
returns-clause-given g c = grind (arith, test_is)
