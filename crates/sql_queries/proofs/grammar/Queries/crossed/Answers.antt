use Rattle.std.proofs.Common.{arith}
use Rattle.sql_queries.proofs.Parts.{crossed_is}
use Rattle.sql_queries.proofs.grammar.Queries.crossed.Goals as goal

pub returns-in_err-item-clause-given : goal.returns-in_err-item-clause-given
returns-in_err-item-clause-given g c = grind (arith, crossed_is)

pub returns-in_ok-item-clause-given : goal.returns-in_ok-item-clause-given
returns-in_ok-item-clause-given g c = grind (arith, crossed_is)

pub returns-in_err-item-2-clause-given : goal.returns-in_err-item-2-clause-given
returns-in_err-item-2-clause-given g c = grind (arith, crossed_is)

pub returns-in_ok-item-2-clause-given : goal.returns-in_ok-item-2-clause-given
returns-in_ok-item-2-clause-given g c = grind (arith, crossed_is)
