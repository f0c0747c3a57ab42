use Rattle.std.proofs.Common.{arith}
use Rattle.sql_tree.proofs.Queries.{key_is}
use Rattle.sql_tree.proofs.grammar.cursor.Cursor.key.Goals as goal

pub returns-then-sees_any-clause-given : goal.returns-then-sees_any-clause-given
returns-then-sees_any-clause-given c = grind (arith, key_is)

pub returns-in_err-token-clause-given : goal.returns-in_err-token-clause-given
returns-in_err-token-clause-given c = grind (arith, key_is)

pub returns-in_ok-token-clause-given : goal.returns-in_ok-token-clause-given
returns-in_ok-token-clause-given c = grind (arith, key_is)
