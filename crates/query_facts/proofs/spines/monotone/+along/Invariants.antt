use Rattle.std.proofs.Common.{◌≡◌, ◌≤◌}
use Rattle.bag_algebra.specs.Measures.{size_of}
use Rattle.query_facts.specs.monotone.Monotone.{is_monotone}
use Rattle.query_facts.proofs.spines.monotone.+along.Given as goal

-- the query is monotone where the node is
abbrev pub invariant-down : goal.invariant-down
invariant-down l = (is_monotone l.node ≡ is_monotone l.query) × (size_of l.node ≤ size_of l.query)

abbrev pub decreases-down : goal.decreases-down
decreases-down l = size_of l.node

abbrev pub decreases-is_monotone_along : goal.decreases-is_monotone_along
decreases-is_monotone_along l = size_of l.query.now
