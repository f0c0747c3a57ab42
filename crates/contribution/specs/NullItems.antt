-- NULLs as items, alone and beside columns.
use Rattle.std.specs.Prelude.{ℕ, List, ◌++◌, map}
use Rattle.perm_values.specs.Rows.{picked}
use Rattle.perm_values.specs.declared.kind.Kind.{Kind}
use Rattle.perm_values.specs.declared.value.Value.TheVariants.{Null}
use Rattle.bag_algebra.specs.Bags.{Row, nulls}
use Rattle.bag_algebra.specs.ColumnItems.{column_items}
use Rattle.bag_algebra.specs.declared.expr.Expr.TheVariants.{Lit}
use Rattle.bag_algebra.specs.declared.expr.Item.{Item}

abbrev pub null_item : Kind → Item
null_item kind = record { expr = Lit Null kind; kind = kind }

-- of columns with the kinds of the first list: those at the places before, NULLs of the kinds, and those behind
abbrev pub padded_items : List Kind → List ℕ → List Kind → List ℕ → List Item
padded_items columns before kinds behind = column_items columns before ++ map null_item kinds ++ column_items columns behind

-- the values at the places before, as many NULLs, and the values behind
abbrev pub padded_row : List ℕ → ℕ → List ℕ → Row → Row
padded_row before width behind u = picked before u ++ nulls width ++ picked behind u
