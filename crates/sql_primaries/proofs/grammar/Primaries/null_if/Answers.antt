use Rattle.std.proofs.Common.{arith}
use Rattle.sql_primaries.proofs.PrimariesRead.{null_if_is}
use Rattle.sql_primaries.proofs.grammar.Primaries.null_if.Goals as goal

pub returns-in_err-token-clause-given : goal.returns-in_err-token-clause-given
returns-in_err-token-clause-given g c = grind (arith, null_if_is)

pub returns-then-sees-clause-given : goal.returns-then-sees-clause-given
returns-then-sees-clause-given g c = grind (arith, null_if_is)

pub returns-else-sees-clause-given : goal.returns-else-sees-clause-given
returns-else-sees-clause-given g c = grind (arith, null_if_is)
