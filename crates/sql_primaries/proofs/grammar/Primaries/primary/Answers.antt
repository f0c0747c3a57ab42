use Rattle.std.proofs.Common.{arith}
use Rattle.sql_primaries.proofs.PrimariesRead.{primary_is}
use Rattle.sql_primaries.proofs.grammar.Primaries.primary.Goals as goal

pub returns-in_err-body-clause-given : goal.returns-in_err-body-clause-given
returns-in_err-body-clause-given g c = grind (arith, primary_is)

pub returns-clause-given : goal.returns-clause-given
returns-clause-given g c = grind (arith, primary_is)
