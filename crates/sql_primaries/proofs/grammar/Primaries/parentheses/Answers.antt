use Rattle.std.proofs.Common.{arith}
use Rattle.sql_primaries.proofs.PrimariesRead.{parentheses_is}
use Rattle.sql_primaries.proofs.grammar.Primaries.parentheses.Goals as goal

pub returns-in_err-past-clause-given : goal.returns-in_err-past-clause-given
returns-in_err-past-clause-given g c = grind (arith, parentheses_is)

pub returns-in_err-body-clause-given : goal.returns-in_err-body-clause-given
returns-in_err-body-clause-given g c = grind (arith, parentheses_is)

pub returns-clause-given : goal.returns-clause-given
returns-clause-given g c = grind (arith, parentheses_is)
