use Rattle.std.proofs.Common.{arith}
use Rattle.sql_tree.proofs.Queries.{having_is}
use Rattle.sql_queries.proofs.grammar.Queries.having.Goals as goal

pub returns-clause-given : goal.returns-clause-given
returns-clause-given g c = grind (arith, having_is)
