use Rattle.std.proofs.Common.{arith}
use Rattle.sql_tree.proofs.Queries.{item_value_is}
use Rattle.sql_queries.proofs.grammar.Queries.item_value.Goals as goal

pub returns-in_err-expr-clause-given : goal.returns-in_err-expr-clause-given
returns-in_err-expr-clause-given g c = grind (arith, item_value_is)

pub returns-clause-given : goal.returns-clause-given
returns-clause-given g c = grind (arith, item_value_is)
