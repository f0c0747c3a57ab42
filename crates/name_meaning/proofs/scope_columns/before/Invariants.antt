use Rattle.std.proofs.Common.{◌-◌, ◌≤◌, take, drop, length}
use Rattle.name_meaning.specs.Ascending.{Ascends, Below, From}
use Rattle.name_meaning.proofs.scope_columns.before.Given as goal

-- all columns before `low` stand before the place that is looked for, and those from `high` on behind it
abbrev pub invariant-loop-low : goal.invariant-loop-low
invariant-loop-low l =
    (l.low ≤ l.high) × (l.high ≤ length l.columns)
    × (Ascends 0 l.columns → Below l.number (take l.low l.columns)) × (Ascends 0 l.columns → From l.number (drop l.high l.columns))

abbrev pub decreases-loop-low : goal.decreases-loop-low
decreases-loop-low l = l.high - l.low
