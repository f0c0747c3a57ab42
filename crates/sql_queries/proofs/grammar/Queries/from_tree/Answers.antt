use Rattle.std.proofs.Common.{arith}
use Rattle.sql_tree.proofs.Queries.{from_is}
use Rattle.sql_queries.proofs.grammar.Queries.from_tree.Goals as goal

pub returns-in_err-first-clause-given : goal.returns-in_err-first-clause-given
returns-in_err-first-clause-given g c = grind (arith, from_is)

pub returns-in_err-joins-clause-given : goal.returns-in_err-joins-clause-given
returns-in_err-joins-clause-given g c = grind (arith, from_is)

pub returns-clause-given : goal.returns-clause-given
returns-clause-given g c = grind (arith, from_is)
