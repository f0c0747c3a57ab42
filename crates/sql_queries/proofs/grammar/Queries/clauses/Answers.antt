use Rattle.std.proofs.Common.{arith}
use Rattle.sql_queries.proofs.grammar.Queries.clauses.Goals as goal

pub returns-in_err-sources-clause-given : goal.returns-in_err-sources-clause-given
returns-in_err-sources-clause-given g c = grind arith

pub returns-in_err-condition-clause-given : goal.returns-in_err-condition-clause-given
returns-in_err-condition-clause-given g c = grind arith

pub returns-in_err-groups-clause-given : goal.returns-in_err-groups-clause-given
returns-in_err-groups-clause-given g c = grind arith

pub returns-in_err-having-clause-given : goal.returns-in_err-having-clause-given
returns-in_err-having-clause-given g c = grind arith

pub returns-clause-given : goal.returns-clause-given
returns-clause-given g c = grind arith
