use Rattle.std.proofs.Common.{arith}
use Rattle.sql_queries.proofs.Parts.{joined_on_is}
use Rattle.sql_queries.proofs.grammar.Queries.joined_on.Goals as goal

pub returns-in_err-word-clause-given : goal.returns-in_err-word-clause-given
returns-in_err-word-clause-given g c = grind (arith, joined_on_is)

pub returns-clause-given : goal.returns-clause-given
returns-clause-given g c = grind (arith, joined_on_is)
