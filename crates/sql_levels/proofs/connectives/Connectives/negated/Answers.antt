use Rattle.std.proofs.Common.{arith}
use Rattle.sql_levels.proofs.Counts.{negated_is}
use Rattle.sql_levels.proofs.connectives.Connectives.negated.Goals as goal

pub returns-in_err-nots-clause-given : goal.returns-in_err-nots-clause-given
returns-in_err-nots-clause-given g c = grind (arith, negated_is)

pub returns-in_err-part-clause-given : goal.returns-in_err-part-clause-given
returns-in_err-part-clause-given g c = grind (arith, negated_is)

pub returns-clause-given : goal.returns-clause-given
returns-clause-given g c = grind (arith, negated_is)
