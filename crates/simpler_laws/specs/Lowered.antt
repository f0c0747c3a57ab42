-- Tests of the rows of a projection to columns, on the rows below it.
use Rattle.std.specs.Prelude.{◌≡◌, ⊤, ℕ, List, [], ◌∷◌}
use Rattle.bag_algebra.specs.declared.expr.Expr.{Expr}
use Rattle.bag_algebra.specs.declared.expr.Expr.TheVariants.{Col}
use Rattle.bag_algebra.specs.declared.expr.Item.{Item}
use Rattle.contribution.specs.MovedColumns.{PartsMoved}

-- each item is the column at that place of the node's own row
abbrev pub AreColumns : List Item → List ℕ → Type 0
AreColumns [] [] = ⊤
AreColumns [] (place ∷ places) = ⊥
AreColumns (item ∷ items) [] = ⊥
AreColumns (item ∷ items) (place ∷ places) = (item.expr ≡ Col 0 place) × AreColumns items places

-- the items are columns, and the tests are moved to where these stand
pub record IsLowered (items : List Item) (tests lowered : List Expr) : Type 0 where
  pub places : List ℕ
  pub columns : AreColumns items places
  pub moved : PartsMoved places tests lowered
