use Rattle.std.proofs.Common.{arith}
use Rattle.sql_tree.proofs.Queries.{join_is}
use Rattle.sql_queries.proofs.grammar.Queries.join.Goals as goal

pub returns-then-sees_any-clause-given : goal.returns-then-sees_any-clause-given
returns-then-sees_any-clause-given g c = grind (arith, join_is)

pub returns-then-sees-clause-given : goal.returns-then-sees-clause-given
returns-then-sees-clause-given g c = grind (arith, join_is)

pub returns-else-sees-clause-given : goal.returns-else-sees-clause-given
returns-else-sees-clause-given g c = grind (arith, join_is)
