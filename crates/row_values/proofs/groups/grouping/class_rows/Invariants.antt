use Rattle.std.proofs.Common.{◌≡◌, ◌++◌, length}
use Rattle.bag_algebra.specs.Bags.{Row}
use Rattle.bag_algebra.specs.Outcome.{Outcome, Good, each}
use Rattle.row_values.specs.Columns.{MakesRows}
use Rattle.row_values.proofs.groups.grouping.class_rows.Given as goal

abbrev pub invariant-loop-key : goal.invariant-loop-key
invariant-loop-key l =
    (l.yielded ++ l.key-iterator ≡ l.fn.keys.keys)
    × (l.number ≡ length l.yielded)
    × ((make : Row → Outcome Row) → MakesRows make l.fn.keys.keys l.columns → each make l.yielded ≡ Good l.rows)
