use Rattle.std.proofs.Common.{arith}
use Rattle.sql_tree.proofs.Queries.{sources_is}
use Rattle.sql_queries.proofs.grammar.Queries.sources.Goals as goal

pub returns-in_err-past-clause-given : goal.returns-in_err-past-clause-given
returns-in_err-past-clause-given g c = grind (arith, sources_is)

pub returns-in_ok-past-clause-given : goal.returns-in_ok-past-clause-given
returns-in_ok-past-clause-given g c = grind (arith, sources_is)

pub returns-else-sees-clause-given : goal.returns-else-sees-clause-given
returns-else-sees-clause-given g c = grind (arith, sources_is)
