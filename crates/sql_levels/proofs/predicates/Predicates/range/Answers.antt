use Rattle.std.proofs.Common.{arith}
use Rattle.sql_levels.proofs.Comparing.{range_is}
use Rattle.sql_levels.proofs.predicates.Predicates.range.Goals as goal

pub returns-then-sees-clause-given : goal.returns-then-sees-clause-given
returns-then-sees-clause-given g c = grind (arith, range_is)

pub returns-then-sees-2-clause-given : goal.returns-then-sees-2-clause-given
returns-then-sees-2-clause-given g c = grind (arith, range_is)

pub returns-else-sees-2-clause-given : goal.returns-else-sees-2-clause-given
returns-else-sees-2-clause-given g c = grind (arith, range_is)
