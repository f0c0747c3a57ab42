use Rattle.std.proofs.Common.{arith}
use Rattle.sql_tree.proofs.Steps.{sum_step_is}
use Rattle.sql_levels.proofs.sums.Sums.sum_step.Goals as goal

pub returns-in_err-token-clause-given : goal.returns-in_err-token-clause-given
returns-in_err-token-clause-given g c = grind (arith, sum_step_is)

pub returns-in_err-part-clause-given : goal.returns-in_err-part-clause-given
returns-in_err-part-clause-given g c = grind (arith, sum_step_is)

pub returns-clause-given : goal.returns-clause-given
returns-clause-given g c = grind (arith, sum_step_is)
