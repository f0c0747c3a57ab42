use Rattle.std.proofs.Common.{arith}
use Rattle.sql_queries.proofs.Parts.{cross_join_is}
use Rattle.sql_queries.proofs.grammar.Queries.cross_join.Goals as goal

pub returns-in_err-past_both-clause-given : goal.returns-in_err-past_both-clause-given
returns-in_err-past_both-clause-given g c = grind (arith, cross_join_is)

pub returns-clause-given : goal.returns-clause-given
returns-clause-given g c = grind (arith, cross_join_is)
