-- What stands alone at a level is its part, and in parentheses it is a node of its own.
use Rattle.std.proofs.Common.{◌≡◌, ℕ, ◌+◌, refl}
use Rattle.sql_tree.specs.grammar.Building.{node}
use Rattle.sql_tree.specs.grammar.Rules.{symbol}
use Rattle.sql_tree.specs.grammar.Symbols as n
use Rattle.sql_tree.specs.declared.expression.ExprBody.TheVariants as e
use Rattle.tree_texts.specs.plans.Levels.{expression, parens}
use Rattle.tree_texts.specs.plans.Plans.{Plan, value}

pub alone : (p : Plan (symbol n.Primary)) (at : ℕ) → value at (expression p) ≡ value at p
alone p at = refl

pub enclosed_alone : (p : Plan (symbol n.Expr)) (at : ℕ) → value at (parens p) ≡ node at (e.Paren (value (at + 2) p))
enclosed_alone p at = refl
