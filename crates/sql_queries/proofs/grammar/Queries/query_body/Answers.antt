use Rattle.std.proofs.Common.{arith}
use Rattle.sql_tree.proofs.Queries.{query_is}
use Rattle.sql_queries.proofs.grammar.Queries.query_body.Goals as goal

pub returns-in_err-first-clause-given : goal.returns-in_err-first-clause-given
returns-in_err-first-clause-given g c = grind (arith, query_is)

pub returns-in_err-rest-clause-given : goal.returns-in_err-rest-clause-given
returns-in_err-rest-clause-given g c = grind (arith, query_is)

pub returns-clause-given : goal.returns-clause-given
returns-clause-given g c = grind (arith, query_is)
