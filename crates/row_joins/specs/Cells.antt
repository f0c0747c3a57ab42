-- Whether a value is among the first columns of rows.
use Rattle.std.specs.Prelude.{◌≡◌, Bool, false, cond, [], ◌∷◌}
use Rattle.std.specs.List.{list_any}
use Rattle.perm_values.specs.Values.{is_null}
use Rattle.null_logic.specs.declared.truth.Truth.{Truth}
use Rattle.null_logic.specs.declared.truth.Truth.TheVariants.{True, False, Unknown}
use Rattle.bag_algebra.specs.Bags.{Bag}
use Rattle.bag_algebra.specs.Means.{cell, is_some_row}
use Rattle.row_joins.specs.Equated.{pair_of}
use Rattle.row_joins.specs.Places.{Finds}
use Rattle.row_joins.specs.declared.cells.Cells.{Cells}
use Rattle.row_joins.specs.declared.pairs.ColumnPair.{ColumnPair}

-- the first columns of both sides, by `=`
abbrev pub first_pair : ColumnPair
first_pair = pair_of 0 0 false

abbrev pub truth_from : Bool → Bool → Truth
truth_from found unknown = cond found True (cond unknown Unknown False)

-- the table, and what it doesn't tell, is of the first columns of these rows
pub record AreCells (cells : Cells) (vs : Bag) : Type 0 where
  pub columns_are : cells.columns ≡ first_pair ∷ []
  pub finds : Finds cells.columns cells.table.entries vs
  pub nulls_are : cells.some_null ≡ list_any (λ v. is_null (cell v)) vs
  pub rows_are : cells.some_row ≡ is_some_row vs
