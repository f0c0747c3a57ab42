use Rattle.std.proofs.Common.{arith}
use Rattle.sql_primaries.proofs.PrimariesRead.{counted_is}
use Rattle.sql_primaries.proofs.grammar.Primaries.counted.Goals as goal

pub returns-then-sees-clause-given : goal.returns-then-sees-clause-given
returns-then-sees-clause-given g c = grind (arith, counted_is)

pub returns-else-sees-clause-given : goal.returns-else-sees-clause-given
returns-else-sees-clause-given g c = grind (arith, counted_is)
