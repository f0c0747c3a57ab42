-- Items that are columns of the node's own row.
use Rattle.std.specs.Prelude.{ℕ, List, map}
use Rattle.perm_values.specs.declared.kind.Kind.{Kind}
use Rattle.bag_algebra.specs.Kinds.{kind_in}
use Rattle.bag_algebra.specs.declared.expr.Expr.TheVariants.{Col}
use Rattle.bag_algebra.specs.declared.expr.Item.{Item}

-- the column at a place, with its kind
abbrev pub column_item : List Kind → ℕ → Item
column_item kinds place = record { expr = Col 0 place; kind = kind_in kinds place }

abbrev pub column_items : List Kind → List ℕ → List Item
column_items kinds places = map (column_item kinds) places
