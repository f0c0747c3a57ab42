use Rattle.std.proofs.Common.{arith}
use Rattle.sql_tree.proofs.Queries.{aliased_is}
use Rattle.sql_queries.proofs.grammar.Queries.aliased.Goals as goal

pub returns-then-sees_any-clause-given : goal.returns-then-sees_any-clause-given
returns-then-sees_any-clause-given g c = grind (arith, aliased_is)

pub returns-else-sees_any-clause-given : goal.returns-else-sees_any-clause-given
returns-else-sees_any-clause-given g c = grind (arith, aliased_is)
