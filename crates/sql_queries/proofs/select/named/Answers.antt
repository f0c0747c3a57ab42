use Rattle.std.proofs.Common.{arith}
use Rattle.sql_queries.proofs.select.named.Goals as goal

pub returns-in_err-name-clause-given : goal.returns-in_err-name-clause-given
returns-in_err-name-clause-given c = grind arith

pub returns-clause-given : goal.returns-clause-given
returns-clause-given c = grind arith
