use Rattle.std.proofs.Common.{arith}
use Rattle.sql_tree.proofs.Queries.{condition_is}
use Rattle.sql_queries.proofs.grammar.Queries.condition.Goals as goal

pub returns-clause-given : goal.returns-clause-given
returns-clause-given g c = grind (arith, condition_is)
