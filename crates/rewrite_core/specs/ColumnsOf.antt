-- The columns of a set operation and of its left rewriting.
use Rattle.std.specs.Prelude.{◌≡◌, ◌+◌}
use Rattle.bag_algebra.specs.Kinds.{width_of}
use Rattle.bag_algebra.specs.declared.query.Query.{Query}
use Rattle.rewrite_core.specs.declared.sets.columns.SetWidths.{SetWidths}

pub record ColumnsOf (columns : SetWidths) (left rewriting : Query) : Type 0 where
  pub own : columns.own ≡ width_of left
  pub kept : columns.kept ≡ width_of rewriting
  pub right : columns.right ≡ width_of rewriting + width_of left
  pub left_out : columns.left_out ≡ width_of left + width_of left
