-- A join of any kind in parts: its pairs, and beside NULLs the rows of a kept side that stand in no pair (ISO/IEC 9075-2,
-- 'joined table'; the sublinks of its condition are those of the pairs alone).
use Rattle.std.specs.Prelude.{ℕ, ◌+◌, ◌-◌, false, List, [], ◌++◌}
use Rattle.std.specs.List.{range_with_len}
use Rattle.bag_algebra.specs.ColumnItems.{column_items}
use Rattle.bag_algebra.specs.Kinds.{kinds_of, width_of}
use Rattle.bag_algebra.specs.built.Patterns.{DistinctOf, ProjectOf, UnionOf}
use Rattle.bag_algebra.specs.declared.expr.Expr.{Expr}
use Rattle.bag_algebra.specs.declared.query.JoinKind.{JoinKind}
use Rattle.bag_algebra.specs.declared.query.JoinKind.TheVariants.{Inner, Left, Right, Full}
use Rattle.bag_algebra.specs.declared.query.Query.{Query, end_of-Sublink}
use Rattle.contribution.specs.Conjunctions.{all_hold, same_tests}
use Rattle.rewrite_core.specs.rewritings.KeptColumns.{pairs_of}
use Rattle.rewrite_sublink.specs.declared.joins.sides.Side.{Side}

-- ---- where the columns of a side stand

-- the columns of the side's rewriting
abbrev pub row_width : Side → ℕ
row_width side = side.own + side.added

-- where they stand in the pairs, counted from the end of so many columns: first the side's own, then its provenance
abbrev pub places_in_pair : ℕ → Side → List ℕ
places_in_pair start side =
    range_with_len (start + side.before) side.own ++ range_with_len (start + side.before + side.own + side.between) side.added

-- a row of the side's rewriting stands before a pair: that it is the side's part of the pair
abbrev pub is_part : Side → Expr
is_part side = all_hold (same_tests 0 (range_with_len 0 (row_width side)) (places_in_pair (row_width side) side))

-- the columns of a pair, those of the side taken from the row before it
abbrev pub columns_of_pair : Side → List ℕ
columns_of_pair side =
    let row = row_width side in
    range_with_len row side.before
    ++ range_with_len 0 side.own
    ++ range_with_len (row + side.before + side.own) side.between
    ++ range_with_len side.own side.added
    ++ range_with_len (row + side.before + side.own + side.between + side.added) side.behind

-- in pairs the left columns come first, then the right ones, then the provenance of the left, that of the right, and what
-- the sublinks contribute
abbrev pub left_side : (left left_rewriting right pairs : Query) → Side
left_side left left_rewriting right pairs = record {
  before = 0;
  own = width_of left;
  between = width_of right;
  added = width_of left_rewriting - width_of left;
  behind = width_of pairs - (width_of left_rewriting + width_of right);
}

abbrev pub right_side : (left left_rewriting right right_rewriting pairs : Query) → Side
right_side left left_rewriting right right_rewriting pairs = record {
  before = width_of left;
  own = width_of right;
  between = width_of left_rewriting - width_of left;
  added = width_of right_rewriting - width_of right;
  behind = width_of pairs - (width_of left_rewriting + width_of right_rewriting);
}

-- ---- the parts

-- each row of the side's rewriting, once, beside the pairs that it is a part of; beside NULLs where there is none
abbrev pub marked : Side → (rewriting pairs : Query) → Query
marked side rewriting pairs = pairs_of Left (DistinctOf rewriting) pairs (is_part side)

-- the pairs, and beside NULLs the rows of the side that stand in no pair
abbrev pub with_alone : Side → (rewriting pairs : Query) → Query
with_alone side rewriting pairs =
    ProjectOf (marked side rewriting pairs) (column_items (kinds_of rewriting ++ kinds_of pairs) (columns_of_pair side)) [] end_of-Sublink

-- the pairs, with the rows of the kept sides that stand in none
abbrev pub by_parts : JoinKind → (left left_rewriting right right_rewriting pairs : Query) → Query
by_parts Inner left left_rewriting right right_rewriting pairs = pairs
by_parts Left left left_rewriting right right_rewriting pairs = with_alone (left_side left left_rewriting right pairs) left_rewriting pairs
by_parts Right left left_rewriting right right_rewriting pairs =
    with_alone (right_side left left_rewriting right right_rewriting pairs) right_rewriting pairs
by_parts Full left left_rewriting right right_rewriting pairs =
    UnionOf false (with_alone (left_side left left_rewriting right pairs) left_rewriting pairs)
    (with_alone (right_side left left_rewriting right right_rewriting pairs) right_rewriting pairs)
