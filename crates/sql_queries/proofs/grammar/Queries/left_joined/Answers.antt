use Rattle.std.proofs.Common.{arith}
use Rattle.sql_queries.proofs.Parts.{left_joined_is}
use Rattle.sql_queries.proofs.grammar.Queries.left_joined.Goals as goal

pub returns-then-sees_lateral-clause-given : goal.returns-then-sees_lateral-clause-given
returns-then-sees_lateral-clause-given g c = grind (arith, left_joined_is)

pub returns-else-sees_lateral-clause-given : goal.returns-else-sees_lateral-clause-given
returns-else-sees_lateral-clause-given g c = grind (arith, left_joined_is)
