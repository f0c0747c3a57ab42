use Rattle.std.proofs.Common.{◌≡◌, ◌≤◌}
use Rattle.name_inside.proofs.Sorted.{NotedFrom}
use Rattle.name_inside.proofs.noted.all_noted.Given as goal

-- the names from here on
abbrev pub invariant-loop-left : goal.invariant-loop-left
invariant-loop-left l = NotedFrom l.names l.left l.sorted.items

abbrev pub decreases-loop-left : goal.decreases-loop-left
decreases-loop-left l = l.left
