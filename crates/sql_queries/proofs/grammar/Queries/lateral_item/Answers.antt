use Rattle.std.proofs.Common.{arith}
use Rattle.sql_queries.proofs.Parts.{lateral_item_is}
use Rattle.sql_queries.proofs.grammar.Queries.lateral_item.Goals as goal

pub returns-in_err-past-clause-given : goal.returns-in_err-past-clause-given
returns-in_err-past-clause-given g c = grind (arith, lateral_item_is)

pub returns-in_err-aliased-clause-given : goal.returns-in_err-aliased-clause-given
returns-in_err-aliased-clause-given g c = grind (arith, lateral_item_is)

pub returns-clause-given : goal.returns-clause-given
returns-clause-given g c = grind (arith, lateral_item_is)
