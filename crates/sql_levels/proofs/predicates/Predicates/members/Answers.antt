use Rattle.std.proofs.Common.{arith}
use Rattle.sql_levels.proofs.Comparing.{members_is}
use Rattle.sql_levels.proofs.predicates.Predicates.members.Goals as goal

pub returns-in_err-past-clause-given : goal.returns-in_err-past-clause-given
returns-in_err-past-clause-given g c = grind (arith, members_is)

pub returns-in_err-tail-clause-given : goal.returns-in_err-tail-clause-given
returns-in_err-tail-clause-given g c = grind (arith, members_is)

pub returns-in-Ok-clause-given : goal.returns-in-Ok-clause-given
returns-in-Ok-clause-given g c = grind (arith, members_is)

pub returns-in-Err-clause-given : goal.returns-in-Err-clause-given
returns-in-Err-clause-given g c = grind (arith, members_is)
