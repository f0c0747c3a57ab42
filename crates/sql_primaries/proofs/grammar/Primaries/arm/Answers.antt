use Rattle.std.proofs.Common.{arith}
use Rattle.sql_primaries.proofs.Pairs.{arm_is}
use Rattle.sql_primaries.proofs.grammar.Primaries.arm.Goals as goal

pub returns-in_err-past-clause-given : goal.returns-in_err-past-clause-given
returns-in_err-past-clause-given g c = grind (arith, arm_is)

pub returns-clause-given : goal.returns-clause-given
returns-clause-given g c = grind (arith, arm_is)
