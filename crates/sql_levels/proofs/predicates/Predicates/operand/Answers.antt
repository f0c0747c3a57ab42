use Rattle.std.proofs.Common.{arith}
use Rattle.sql_levels.proofs.Comparing.{sum_takes}
use Rattle.sql_levels.proofs.predicates.Predicates.operand.Goals as goal

pub returns-clause-fewer : goal.returns-clause-fewer
returns-clause-fewer g c = grind (arith, sum_takes)
