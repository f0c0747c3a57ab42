use Rattle.std.proofs.Common.{◌≡◌, take}
use Rattle.std.specs.Prelude.{map, flat_map}
use Rattle.std.specs.List.{list_any}
use Rattle.name_meaning.specs.Expressions.{arm_parts}
use Rattle.name_meaning.specs.Trees.{part_of, step_of, arm_of}
use Rattle.perm_catalog.specs.Contents.{Contents}
use Rattle.name_seen_parts.specs.Aggregates.{is_aggregating, step_aggregates}
use Rattle.name_seen_parts.proofs.clauses.aggregates.+aggregates.Given as goal

-- whether one stands in those so far
abbrev pub invariant-any_aggregates-loop-tree : goal.invariant-any_aggregates-loop-tree
invariant-any_aggregates-loop-tree l = (c : Contents) → l.found ≡ list_any is_aggregating (map (part_of c) (take l.tree-index l.trees))

abbrev pub invariant-any_step_aggregates-loop-step : goal.invariant-any_step_aggregates-loop-step
invariant-any_step_aggregates-loop-step l = (c : Contents) → l.found ≡ list_any step_aggregates (map (step_of c) (take l.step-index l.steps))

abbrev pub invariant-any_arm_aggregates-loop-arm : goal.invariant-any_arm_aggregates-loop-arm
invariant-any_arm_aggregates-loop-arm l =
    (c : Contents) → l.found ≡ list_any is_aggregating (flat_map arm_parts (map (arm_of c) (take l.arm-index l.arms)))
