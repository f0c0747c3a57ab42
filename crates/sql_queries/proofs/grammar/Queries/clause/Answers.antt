use Rattle.std.proofs.Common.{arith}
use Rattle.sql_queries.proofs.grammar.Queries.clause.Goals as goal

pub returns-then-not-sees-clause-given : goal.returns-then-not-sees-clause-given
returns-then-not-sees-clause-given g c = grind arith

pub returns-in_err-past-clause-given : goal.returns-in_err-past-clause-given
returns-in_err-past-clause-given g c = grind arith

pub returns-in_err-expression-clause-given : goal.returns-in_err-expression-clause-given
returns-in_err-expression-clause-given g c = grind arith

pub returns-clause-given : goal.returns-clause-given
returns-clause-given g c = grind arith
