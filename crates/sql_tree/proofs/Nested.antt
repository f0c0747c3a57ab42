-- What the rules with expressions need: that what reads an expression or a query may be called further on, and takes a token.
use Rattle.std.proofs.Common.{◌≡◌, ◌<◌, List, length, refl}
use Rattle.sql_lexer.specs.declared.token.Token.{Token}
use Rattle.sql_tree.specs.grammar.Cursors.{reading}
use Rattle.sql_tree.specs.grammar.Descent.{Taken}
use Rattle.sql_tree.specs.grammar.Symbols as n
use Rattle.sql_tree.specs.declared.expression.ExprTree.{ExprTree}
use Rattle.sql_tree.specs.declared.query.QueryTree.{QueryTree}
use Rattle.sql_tree.proofs.Steps.{reading-takes}

pub expr_takes : (old : List Token) (x : ExprTree) (new : List Token) → reading n.Expr old ≡ Taken x new → length new < length old
expr_takes = reading-takes n.Expr refl

pub query_takes : (old : List Token) (x : QueryTree) (new : List Token) → reading n.Query old ≡ Taken x new → length new < length old
query_takes = reading-takes n.Query refl
