-- The rows that a DELETE leaves.
use Rattle.std.specs.Prelude.{Bool, false, not, filter, Option}
use Rattle.bag_algebra.specs.Bags.{Row, Bag}
use Rattle.bag_algebra.specs.Outcome.{Outcome, Good, Bad}
use Rattle.bag_algebra.specs.declared.expr.Expr.{Expr}
use Rattle.delete_impact.specs.vanishing.Doomed.{doomed_on}

abbrev pub is_certain : Outcome Bool → Bool
is_certain (Good b) = b
is_certain (Bad faults) = false

-- those of which the condition isn't true: it is false or unknown
abbrev pub rows_left : Option Expr → Bag → Bag
rows_left condition rows = filter (λ (row : Row). not (is_certain (doomed_on condition row))) rows
