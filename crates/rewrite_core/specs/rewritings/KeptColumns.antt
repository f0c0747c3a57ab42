-- Joins of which some columns are left out.
use Rattle.std.specs.Prelude.{ℕ, ◌+◌, ◌-◌, List, [], ◌∷◌, ◌++◌}
use Rattle.std.specs.List.{range_with_len}
use Rattle.null_logic.specs.declared.operator.Operator.TheVariants.{Not}
use Rattle.bag_algebra.specs.ColumnItems.{column_items}
use Rattle.bag_algebra.specs.Kinds.{kinds_of, width_of}
use Rattle.bag_algebra.specs.built.Patterns.{JoinOf, ProjectOf}
use Rattle.bag_algebra.specs.declared.expr.Expr.{Expr}
use Rattle.bag_algebra.specs.declared.expr.Expr.TheVariants.{Op}
use Rattle.bag_algebra.specs.declared.query.JoinKind.{JoinKind}
use Rattle.bag_algebra.specs.declared.query.Query.{Query, end_of-Sublink}
use Rattle.contribution.specs.Conjunctions.{all_hold, same_tests}

-- of so many columns the first ones, and those behind the ones that are left out
abbrev pub kept_places : (kept left_out all : ℕ) → List ℕ
kept_places kept left_out all = range_with_len 0 kept ++ range_with_len (kept + left_out) (all - (kept + left_out))

-- so many of the first columns are the same as those from a place on
abbrev pub same_as_first : (count from : ℕ) → Expr
same_as_first count from = all_hold (same_tests 0 (range_with_len 0 count) (range_with_len from count))

-- one of so many of the first columns isn't the same as its fellow behind the place
abbrev pub differs_from_first : (count from : ℕ) → Expr
differs_from_first count from = Op Not (same_as_first count from ∷ [])

abbrev pub pairs_of : JoinKind → Query → Query → Expr → Query
pairs_of kind left right condition = JoinOf kind left right condition [] end_of-Sublink

-- the columns of the query without the ones left out
abbrev pub columns_kept : Query → (kept left_out : ℕ) → Query
columns_kept q kept left_out = ProjectOf q (column_items (kinds_of q) (kept_places kept left_out (width_of q))) [] end_of-Sublink
