use Rattle.std.proofs.Common.{rules, refl}
use Rattle.sql_tree.specs.grammar.Cursors.{reading}
use Rattle.sql_tree.specs.grammar.Symbols as n
use Rattle.sql_tree.proofs.Steps.{reading-keeps, reading-takes, exprs_is}
use Rattle.sql_tree.proofs.Fewer.{fewer_of}
use Rattle.sql_tree.proofs.grammar.nest.Nest.expressions.Goals as goal

pub returns-clause-given : goal.returns-clause-given
returns-clause-given g c = rw (exprs_is c.args.cursor.now)
    (c.list_of.ensures.given (reading n.Expr) (record { reads = λ old new r met. search rules; fewer = reading-keeps n.Expr }))

pub returns-clause-fewer : goal.returns-clause-fewer
returns-clause-fewer g c =
    fewer_of c.list_of.result (reading n.Exprs c.args.cursor.now) c.args.cursor.now c.list_of.new.cursor
    (λ x e. reading-takes n.Exprs refl c.args.cursor.now x c.list_of.new.cursor e) (returns-clause-given g c)
