-- The test that a row is of a class.
use Rattle.std.specs.Prelude.{ℕ, ◌+◌, List, map, length}
use Rattle.std.specs.List.{range_with_len}
use Rattle.bag_algebra.specs.declared.expr.Expr.{Expr}
use Rattle.contribution.specs.Conjunctions.{all_hold, same_tests}

-- the first columns are the same as those at the places of the groups, counted from a place on
abbrev pub same_groups : List ℕ → (from : ℕ) → Expr
same_groups groups from = all_hold (same_tests 0 (range_with_len 0 (length groups)) (map (λ place. from + place) groups))
