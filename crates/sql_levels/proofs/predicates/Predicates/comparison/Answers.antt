use Rattle.std.proofs.Common.{arith}
use Rattle.sql_levels.proofs.Comparing.{comparison_is}
use Rattle.sql_levels.proofs.predicates.Predicates.comparison.Goals as goal

pub returns-in_err-one-clause-given : goal.returns-in_err-one-clause-given
returns-in_err-one-clause-given g c = grind (arith, comparison_is)

pub returns-then-sees_any-clause-given : goal.returns-then-sees_any-clause-given
returns-then-sees_any-clause-given g c = grind (arith, comparison_is)

pub returns-else-sees_any-clause-given : goal.returns-else-sees_any-clause-given
returns-else-sees_any-clause-given g c = grind (arith, comparison_is)
