use Rattle.std.proofs.Common.{rules}
use Rattle.sql_tree.specs.grammar.Cursors.{reading}
use Rattle.sql_tree.specs.grammar.Symbols as n
use Rattle.sql_tree.proofs.Steps.{reading-keeps, exprs_is}
use Rattle.sql_parser.proofs.statements.expressions.Goals as goal

pub returns-clause-given : goal.returns-clause-given
returns-clause-given c = rw (exprs_is c.args.cursor.now)
    (c.list_of.ensures.given (reading n.Expr) (record { reads = λ old new r met. search rules; fewer = reading-keeps n.Expr }))
