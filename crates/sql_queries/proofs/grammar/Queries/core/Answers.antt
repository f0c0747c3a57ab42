use Rattle.std.proofs.Common.{arith}
use Rattle.sql_queries.proofs.Selecting.{core_is}
use Rattle.sql_queries.proofs.grammar.Queries.core.Goals as goal

pub returns-in_err-provenance-clause-given : goal.returns-in_err-provenance-clause-given
returns-in_err-provenance-clause-given g c = grind (arith, core_is)

pub returns-in_err-items-clause-given : goal.returns-in_err-items-clause-given
returns-in_err-items-clause-given g c = grind (arith, core_is)

pub returns-in_err-clauses-clause-given : goal.returns-in_err-clauses-clause-given
returns-in_err-clauses-clause-given g c = grind (arith, core_is)

pub returns-clause-given : goal.returns-clause-given
returns-clause-given g c = grind (arith, core_is)
