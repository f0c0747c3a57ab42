use Rattle.std.proofs.Common.{arith}
use Rattle.sql_tree.proofs.Sequenced.{join_kind_is}
use Rattle.sql_tree.proofs.grammar.cursor.Cursor.join_kind.Goals as goal

pub returns-in_err-past_behind-clause-given : goal.returns-in_err-past_behind-clause-given
returns-in_err-past_behind-clause-given c = grind (arith, join_kind_is)

pub returns-in_ok-past_behind-clause-given : goal.returns-in_ok-past_behind-clause-given
returns-in_ok-past_behind-clause-given c = grind (arith, join_kind_is)

pub returns-in_err-token-clause-given : goal.returns-in_err-token-clause-given
returns-in_err-token-clause-given c = grind (arith, join_kind_is)

pub returns-in_err-past_behind-2-clause-given : goal.returns-in_err-past_behind-2-clause-given
returns-in_err-past_behind-2-clause-given c = grind (arith, join_kind_is)

pub returns-in_ok-past_behind-2-clause-given : goal.returns-in_ok-past_behind-2-clause-given
returns-in_ok-past_behind-2-clause-given c = grind (arith, join_kind_is)
