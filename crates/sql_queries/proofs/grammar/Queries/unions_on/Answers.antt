use Rattle.std.proofs.Common.{arith}
use Rattle.sql_queries.proofs.grammar.Queries.unions_on.Goals as goal

pub returns-in_err-steps-clause-given : goal.returns-in_err-steps-clause-given
returns-in_err-steps-clause-given g c = grind arith

pub returns-in_err-rest-clause-given : goal.returns-in_err-rest-clause-given
returns-in_err-rest-clause-given g c = grind arith

pub returns-clause-given : goal.returns-clause-given
returns-clause-given g c = grind arith
