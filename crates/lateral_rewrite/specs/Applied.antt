-- The dependent join of rewritings, with its columns before those of provenance.
use Rattle.std.specs.Prelude.{ℕ, ◌+◌, ◌-◌, List, [], ◌++◌}
use Rattle.std.specs.List.{range_with_len}
use Rattle.bag_algebra.specs.ColumnItems.{column_items}
use Rattle.bag_algebra.specs.Kinds.{kinds_of, width_of}
use Rattle.bag_algebra.specs.built.Patterns.{ApplyOf, ProjectOf}
use Rattle.bag_algebra.specs.declared.query.JoinKind.{JoinKind}
use Rattle.bag_algebra.specs.declared.query.Query.{Query, end_of-Sublink}

-- of a left row with so many columns of so many in all, and a right row likewise: the columns, and then those behind them, the
-- left ones first
abbrev pub regrouped : (left left_row right right_row : ℕ) → List ℕ
regrouped left left_row right right_row =
    (range_with_len 0 left ++ range_with_len left_row right)
    ++ (range_with_len left (left_row - left) ++ range_with_len (left_row + right) (right_row - right))

-- the dependent join of the rewritings in that order
abbrev pub applied : JoinKind → (left left_rewriting right right_rewriting : Query) → Query
applied kind left left_rewriting right right_rewriting =
    ProjectOf (ApplyOf kind left_rewriting right_rewriting)
    (column_items (kinds_of left_rewriting ++ kinds_of right_rewriting)
    (regrouped (width_of left) (width_of left_rewriting) (width_of right) (width_of right_rewriting))) [] end_of-Sublink
