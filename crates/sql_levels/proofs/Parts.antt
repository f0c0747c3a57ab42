-- What reads the parts of a level takes a token.
use Rattle.std.proofs.Common.{◌≡◌, ◌<◌, List, length, refl}
use Rattle.sql_lexer.specs.declared.token.Token.{Token}
use Rattle.sql_tree.specs.grammar.Cursors.{reading}
use Rattle.sql_tree.specs.grammar.Descent.{Taken}
use Rattle.sql_tree.specs.grammar.Symbols as n
use Rattle.sql_tree.specs.declared.expression.ExprTree.{ExprTree}
use Rattle.sql_tree.proofs.Steps.{reading-takes}

pub test_takes : (old : List Token) (x : ExprTree) (new : List Token) → reading n.Test old ≡ Taken x new → length new < length old
test_takes = reading-takes n.Test refl

pub primary_takes : (old : List Token) (x : ExprTree) (new : List Token) → reading n.Primary old ≡ Taken x new → length new < length old
primary_takes = reading-takes n.Primary refl
