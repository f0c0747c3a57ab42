use Rattle.std.proofs.Common.{arith}
use Rattle.sql_primaries.proofs.PrimariesRead.{case_is}
use Rattle.sql_primaries.proofs.grammar.Primaries.case.Goals as goal

pub returns-in_err-past-clause-given : goal.returns-in_err-past-clause-given
returns-in_err-past-clause-given g c = grind (arith, case_is)

pub returns-in_err-arms-clause-given : goal.returns-in_err-arms-clause-given
returns-in_err-arms-clause-given g c = grind (arith, case_is)

pub returns-in_err-otherwise-clause-given : goal.returns-in_err-otherwise-clause-given
returns-in_err-otherwise-clause-given g c = grind (arith, case_is)

pub returns-clause-given : goal.returns-clause-given
returns-clause-given g c = grind (arith, case_is)
