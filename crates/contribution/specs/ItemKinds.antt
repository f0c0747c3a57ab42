-- Items and their kinds.
use Rattle.std.specs.Prelude.{ℕ}
use Rattle.perm_values.specs.declared.kind.Kind.{Kind}
use Rattle.bag_algebra.specs.declared.expr.Expr.TheVariants.{Col}
use Rattle.bag_algebra.specs.declared.expr.Item.{Item}

-- the column of the node's own row at a place, with that kind
abbrev pub column_of : Kind → ℕ → Item
column_of kind place = record { expr = Col 0 place; kind = kind }
