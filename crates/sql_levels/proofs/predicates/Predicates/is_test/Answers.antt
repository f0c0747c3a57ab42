use Rattle.std.proofs.Common.{arith}
use Rattle.sql_levels.proofs.Comparing.{is_test_is}
use Rattle.sql_levels.proofs.predicates.Predicates.is_test.Goals as goal

pub returns-in_err-past-clause-given : goal.returns-in_err-past-clause-given
returns-in_err-past-clause-given g c = grind (arith, is_test_is)

pub returns-in_err-negated-clause-given : goal.returns-in_err-negated-clause-given
returns-in_err-negated-clause-given g c = grind (arith, is_test_is)

pub returns-in_err-tail-clause-given : goal.returns-in_err-tail-clause-given
returns-in_err-tail-clause-given g c = grind (arith, is_test_is)

pub returns-clause-given : goal.returns-clause-given
returns-clause-given g c = grind (arith, is_test_is)
