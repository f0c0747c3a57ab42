use Rattle.std.proofs.Common.{arith}
use Rattle.sql_levels.proofs.Comparing.{ranged_is}
use Rattle.sql_levels.proofs.predicates.Predicates.ranged.Goals as goal

pub returns-in_err-part-clause-given : goal.returns-in_err-part-clause-given
returns-in_err-part-clause-given g c = grind (arith, ranged_is)

pub returns-in_err-negated-clause-given : goal.returns-in_err-negated-clause-given
returns-in_err-negated-clause-given g c = grind (arith, ranged_is)

pub returns-in_err-tail-clause-given : goal.returns-in_err-tail-clause-given
returns-in_err-tail-clause-given g c = grind (arith, ranged_is)

pub returns-clause-given : goal.returns-clause-given
returns-clause-given g c = grind (arith, ranged_is)
