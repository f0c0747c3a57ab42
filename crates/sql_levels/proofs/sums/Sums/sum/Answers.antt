use Rattle.std.proofs.Common.{arith}
use Rattle.sql_tree.proofs.Steps.{sum_is}
use Rattle.sql_levels.proofs.sums.Sums.sum.Goals as goal

pub returns-in_err-first-clause-given : goal.returns-in_err-first-clause-given
returns-in_err-first-clause-given g c = grind (arith, sum_is)

pub returns-in_err-steps-clause-given : goal.returns-in_err-steps-clause-given
returns-in_err-steps-clause-given g c = grind (arith, sum_is)

pub returns-clause-given : goal.returns-clause-given
returns-clause-given g c = grind (arith, sum_is)
