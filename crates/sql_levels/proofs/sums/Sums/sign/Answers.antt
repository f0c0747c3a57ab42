use Rattle.std.proofs.Common.{arith}
use Rattle.sql_levels.proofs.Counts.{sign_is}
use Rattle.sql_levels.proofs.sums.Sums.sign.Goals as goal

pub returns-in_err-minuses-clause-given : goal.returns-in_err-minuses-clause-given
returns-in_err-minuses-clause-given g c = grind (arith, sign_is)

pub returns-in_err-part-clause-given : goal.returns-in_err-part-clause-given
returns-in_err-part-clause-given g c = grind (arith, sign_is)

pub returns-clause-given : goal.returns-clause-given
returns-clause-given g c = grind (arith, sign_is)
