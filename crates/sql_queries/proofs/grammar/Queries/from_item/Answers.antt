use Rattle.std.proofs.Common.{arith}
use Rattle.sql_queries.proofs.Parts.{source_is}
use Rattle.sql_queries.proofs.grammar.Queries.from_item.Goals as goal

pub returns-in_err-aliased-clause-given : goal.returns-in_err-aliased-clause-given
returns-in_err-aliased-clause-given g c = grind (arith, source_is)

pub returns-clause-given : goal.returns-clause-given
returns-clause-given g c = grind (arith, source_is)
