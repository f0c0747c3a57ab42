use Rattle.std.proofs.Common.{arith}
use Rattle.sql_tree.proofs.Inner.{inner_by_query}
use Rattle.sql_tree.proofs.grammar.nest.Nest.inner.Goals as goal

pub returns-then-sees-clause-given : goal.returns-then-sees-clause-given
returns-then-sees-clause-given g c = grind (arith, inner_by_query)

pub returns-else-sees-clause-given : goal.returns-else-sees-clause-given
returns-else-sees-clause-given g c = grind (arith, inner_by_query)
