use Rattle.std.proofs.Common.{arith}
use Rattle.sql_tree.proofs.Queries.{alias_is}
use Rattle.sql_tree.proofs.grammar.cursor.Cursor.alias.Goals as goal

pub returns-in_err-past-clause-given : goal.returns-in_err-past-clause-given
returns-in_err-past-clause-given c = grind (arith, alias_is)

pub returns-in_err-name-clause-given : goal.returns-in_err-name-clause-given
returns-in_err-name-clause-given c = grind (arith, alias_is)

pub returns-in_ok-name-clause-given : goal.returns-in_ok-name-clause-given
returns-in_ok-name-clause-given c = grind (arith, alias_is)

pub returns-in_err-name-2-clause-given : goal.returns-in_err-name-2-clause-given
returns-in_err-name-2-clause-given c = grind (arith, alias_is)

pub returns-in_ok-name-2-clause-given : goal.returns-in_ok-name-2-clause-given
returns-in_ok-name-2-clause-given c = grind (arith, alias_is)

pub returns-else-sees_any-clause-given : goal.returns-else-sees_any-clause-given
returns-else-sees_any-clause-given c = grind (arith, alias_is)
