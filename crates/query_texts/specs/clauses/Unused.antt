-- The sublinks of a node that its expressions don't use.
use Rattle.std.specs.Prelude.{ℕ, ◌+◌, Bool, cond, List, [], ◌∷◌}
use Rattle.std.specs.List.{list_any}
use Rattle.bag_algebra.specs.declared.expr.Expr.{Expr}
use Rattle.bag_algebra.specs.declared.expr.Item.{Item}
use Rattle.tree_texts.specs.expressions.Uses.{uses}

abbrev pub used_in : Expr → ℕ → Bool
used_in e number = uses number e

abbrev pub items_use : List Item → ℕ → Bool
items_use items number = list_any (λ (item : Item). uses number item.expr) items

-- what stands for the sublinks, from a number on, that aren't used
abbrev pub spare : {X : Type 0} → (ℕ → Bool) → ℕ → List X → List X
spare used number [] = []
spare used number (sub ∷ subs) = cond (used number) (spare used (number + 1) subs) (sub ∷ spare used (number + 1) subs)
