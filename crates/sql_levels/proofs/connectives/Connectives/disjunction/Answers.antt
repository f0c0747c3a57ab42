use Rattle.std.proofs.Common.{arith}
use Rattle.sql_levels.proofs.Connecting.{expr_is}
use Rattle.sql_levels.proofs.connectives.Connectives.disjunction.Goals as goal

pub returns-in_err-first-clause-given : goal.returns-in_err-first-clause-given
returns-in_err-first-clause-given g c = grind (arith, expr_is)

pub returns-in_err-parts-clause-given : goal.returns-in_err-parts-clause-given
returns-in_err-parts-clause-given g c = grind (arith, expr_is)

pub returns-clause-given : goal.returns-clause-given
returns-clause-given g c = grind (arith, expr_is)
