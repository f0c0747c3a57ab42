-- The places of columns in the pairs of rows that stand for a join: in each row the columns of the input, and then those of
-- its provenance.
use Rattle.std.specs.Prelude.{◌≡◌, ℕ, ◌+◌, ◌-◌, List, [], ◌++◌}
use Rattle.std.specs.List.{range_with_len}
use Rattle.bag_algebra.specs.ColumnItems.{column_items}
use Rattle.bag_algebra.specs.Kinds.{kinds_of, width_of}
use Rattle.bag_algebra.specs.built.Patterns.{JoinOf, ProjectOf}
use Rattle.bag_algebra.specs.declared.expr.Expr.{Expr}
use Rattle.bag_algebra.specs.declared.query.JoinKind.{JoinKind}
use Rattle.bag_algebra.specs.declared.query.Query.{Query, end_of-Sublink}
use Rattle.contribution.specs.MovedColumns.{IsMoved}

-- the columns of the inputs, where the left has so many, the left row so many in all, and the right so many
abbrev pub own_places : ℕ → ℕ → ℕ → List ℕ
own_places left left_row right = range_with_len 0 left ++ range_with_len left_row right

-- those of provenance, where the right row has so many in all
abbrev pub added_places : ℕ → ℕ → ℕ → ℕ → List ℕ
added_places left left_row right right_row =
    range_with_len left (left_row - left) ++ range_with_len (left_row + right) (right_row - right)

-- the join of the rewritings on the condition, with its columns at their places there
pub record IsPaired (kind : JoinKind) (left left_rewriting right right_rewriting : Query) (condition : Expr) (pairs : Query) : Type 0 where
  pub on : Expr
  pub moved : IsMoved (own_places (width_of left) (width_of left_rewriting) (width_of right)) condition on
  pub whole : pairs ≡ JoinOf kind left_rewriting right_rewriting on [] end_of-Sublink

-- that join with its columns in the order
pub record IsLaidOut (kind : JoinKind) (left left_rewriting right right_rewriting : Query) (condition : Expr) (order : List ℕ) (whole : Query) : Type 0 where
  pub pairs : Query
  pub paired : IsPaired kind left left_rewriting right right_rewriting condition pairs
  pub columns : whole ≡ ProjectOf pairs (column_items (kinds_of pairs) order) [] end_of-Sublink
