-- Outer rows that agree on every column that outer kinds name.
use Rattle.std.specs.Prelude.{◌≡◌, ℕ, List, Some}
use Rattle.perm_values.specs.Rows.{value_at}
use Rattle.perm_values.specs.declared.kind.Kind.{Kind}
use Rattle.bag_algebra.specs.Bags.{Row}
use Rattle.bag_algebra.specs.Expressions.{row_at}
use Rattle.bag_algebra.specs.WellFormed.{column_kind}

pub record SameColumns (outer : List (List Kind)) (env other : List Row) : Type 0 where
  pub same : (level place : ℕ) (kind : Kind) → column_kind outer level place ≡ Some kind →
      value_at (row_at env level) place ≡ value_at (row_at other level) place
