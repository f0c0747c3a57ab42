use Rattle.std.proofs.Common.{arith}
use Rattle.sql_queries.proofs.Parts.{source_on_is}
use Rattle.sql_queries.proofs.grammar.Queries.source_on.Goals as goal

pub returns-in_err-item-clause-given : goal.returns-in_err-item-clause-given
returns-in_err-item-clause-given g c = grind (arith, source_on_is)

pub returns-in_err-past-clause-given : goal.returns-in_err-past-clause-given
returns-in_err-past-clause-given g c = grind (arith, source_on_is)

pub returns-in_err-condition-clause-given : goal.returns-in_err-condition-clause-given
returns-in_err-condition-clause-given g c = grind (arith, source_on_is)

pub returns-clause-given : goal.returns-clause-given
returns-clause-given g c = grind (arith, source_on_is)
