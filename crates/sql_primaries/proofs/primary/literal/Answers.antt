use Rattle.std.proofs.Common.{arith}
use Rattle.sql_tree.proofs.Steps.{literal_is}
use Rattle.sql_primaries.proofs.primary.literal.Goals as goal

pub returns-in_err-token-clause-given : goal.returns-in_err-token-clause-given
returns-in_err-token-clause-given c = grind (arith, literal_is)

pub returns-clause-given : goal.returns-clause-given
returns-clause-given c = grind (arith, literal_is)
