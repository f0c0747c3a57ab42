use Rattle.std.proofs.Common.{arith}
use Rattle.sql_queries.proofs.Parts.{inner_source_is}
use Rattle.sql_queries.proofs.grammar.Queries.inner_source.Goals as goal

pub returns-in_err-past-clause-given : goal.returns-in_err-past-clause-given
returns-in_err-past-clause-given g c = grind (arith, inner_source_is)

pub returns-in_err-query-clause-given : goal.returns-in_err-query-clause-given
returns-in_err-query-clause-given g c = grind (arith, inner_source_is)

pub returns-in_err-name-clause-given : goal.returns-in_err-name-clause-given
returns-in_err-name-clause-given g c = grind (arith, inner_source_is)

pub returns-clause-given : goal.returns-clause-given
returns-clause-given g c = grind (arith, inner_source_is)
