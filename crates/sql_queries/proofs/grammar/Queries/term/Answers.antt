use Rattle.std.proofs.Common.{arith}
use Rattle.sql_tree.proofs.Queries.{term_is}
use Rattle.sql_queries.proofs.grammar.Queries.term.Goals as goal

pub returns-in_err-first-clause-given : goal.returns-in_err-first-clause-given
returns-in_err-first-clause-given g c = grind (arith, term_is)

pub returns-in_err-steps-clause-given : goal.returns-in_err-steps-clause-given
returns-in_err-steps-clause-given g c = grind (arith, term_is)

pub returns-clause-given : goal.returns-clause-given
returns-clause-given g c = grind (arith, term_is)
