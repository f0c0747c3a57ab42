use Rattle.std.proofs.Common.{arith}
use Rattle.sql_queries.proofs.Parts.{left_join_is}
use Rattle.sql_queries.proofs.grammar.Queries.left_join.Goals as goal

pub returns-in_err-past-clause-given : goal.returns-in_err-past-clause-given
returns-in_err-past-clause-given g c = grind (arith, left_join_is)

pub returns-in_err-past_behind-clause-given : goal.returns-in_err-past_behind-clause-given
returns-in_err-past_behind-clause-given g c = grind (arith, left_join_is)

pub returns-clause-given : goal.returns-clause-given
returns-clause-given g c = grind (arith, left_join_is)
