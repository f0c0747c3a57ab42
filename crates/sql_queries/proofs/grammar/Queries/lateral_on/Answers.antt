use Rattle.std.proofs.Common.{arith}
use Rattle.sql_queries.proofs.Parts.{lateral_on_is}
use Rattle.sql_queries.proofs.grammar.Queries.lateral_on.Goals as goal

pub returns-in_err-item-clause-given : goal.returns-in_err-item-clause-given
returns-in_err-item-clause-given g c = grind (arith, lateral_on_is)

pub returns-in_err-past_both-clause-given : goal.returns-in_err-past_both-clause-given
returns-in_err-past_both-clause-given g c = grind (arith, lateral_on_is)

pub returns-clause-given : goal.returns-clause-given
returns-clause-given g c = grind (arith, lateral_on_is)
