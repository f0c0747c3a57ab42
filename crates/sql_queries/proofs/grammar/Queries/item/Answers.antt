use Rattle.std.proofs.Common.{arith}
use Rattle.sql_tree.proofs.Queries.{item_is}
use Rattle.sql_queries.proofs.grammar.Queries.item.Goals as goal

pub returns-in_err-token-clause-given : goal.returns-in_err-token-clause-given
returns-in_err-token-clause-given g c = grind (arith, item_is)

pub returns-in_ok-token-clause-given : goal.returns-in_ok-token-clause-given
returns-in_ok-token-clause-given g c = grind (arith, item_is)

pub returns-then-sees_table_star-clause-given : goal.returns-then-sees_table_star-clause-given
returns-then-sees_table_star-clause-given g c = grind (arith, item_is)

pub returns-else-sees_table_star-clause-given : goal.returns-else-sees_table_star-clause-given
returns-else-sees_table_star-clause-given g c = grind (arith, item_is)
