use Rattle.std.proofs.Common.{arith}
use Rattle.sql_tree.proofs.Sequenced.{order_is}
use Rattle.sql_tree.proofs.grammar.cursor.Cursor.order.Goals as goal

pub returns-in_err-past_both-clause-given : goal.returns-in_err-past_both-clause-given
returns-in_err-past_both-clause-given c = grind (arith, order_is)

pub returns-in_ok-past_both-clause-given : goal.returns-in_ok-past_both-clause-given
returns-in_ok-past_both-clause-given c = grind (arith, order_is)

pub returns-else-sees-clause-given : goal.returns-else-sees-clause-given
returns-else-sees-clause-given c = grind (arith, order_is)
