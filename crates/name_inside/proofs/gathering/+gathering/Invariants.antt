use Rattle.std.proofs.Common.{◌≡◌, take}
use Rattle.std.specs.Prelude.{ℕ, Bool, List, [], ◌∷◌, map, flat_map}
use Rattle.name_meaning.specs.Trees.{arm_of, from_of, item_of, join_of, part_of, set_step_of, step_of, from_item_of}
use Rattle.name_meaning.specs.declared.scope.Scope.{Scope}
use Rattle.name_seen_parts.specs.Standing.{around_of, surroundings}
use Rattle.name_inside.specs.Held.{Adds, FromAdded, held_arm, held_at, held_from, held_items, held_operand, held_step}
use Rattle.name_inside.proofs.gathering.+gathering.Given as goal
use Rattle.name_meaning.specs.Froms.{first_item, from_all, in_from, join_all}
use Rattle.sql_tree.specs.declared.source.FromTree.{out-FromTree}

-- what stands inside those so far
abbrev pub invariant-operands_inside-loop-step : goal.invariant-operands_inside-loop-step
invariant-operands_inside-loop-step l =
    Adds (map (held_operand (around_of l.around)) (map (set_step_of l.around.catalog.now) (take l.step-index l.steps))) l.fn.found l.found

abbrev pub invariant-items_inside-loop-item : goal.invariant-items_inside-loop-item
invariant-items_inside-loop-item l = (has_from : Bool) (scope : Scope)
    → Adds (held_items has_from scope (surroundings l.here) (map (item_of l.here.catalog.now) (take l.item-index l.items))) l.fn.found l.found

abbrev pub invariant-sources_inside-loop-tree : goal.invariant-sources_inside-loop-tree
invariant-sources_inside-loop-tree l =
    Adds (held_from (from_all (around_of l.around).outer (map (from_of l.around.catalog.now) (take l.tree-index l.trees))) ∷ []) l.fn.found l.found

-- and the scope of their items
abbrev pub invariant-from_inside-loop-step : goal.invariant-from_inside-loop-step
invariant-from_inside-loop-step l = (names : List (List ℕ)) → FromAdded (join_all (around_of l.around).outer
    (first_item names ((from_item_of l.around.catalog.now (out-FromTree l.tree).first).means (in_from (around_of l.around).outer) names))
    (map (join_of l.around.catalog.now) (take l.step-index (out-FromTree l.tree).joins))) l.fn.found l.found l.own

abbrev pub invariant-expressions_inside-loop-tree : goal.invariant-expressions_inside-loop-tree
invariant-expressions_inside-loop-tree l =
    Adds (map (held_at (surroundings l.here)) (map (part_of l.here.catalog.now) (take l.tree-index l.trees))) l.fn.found l.found

abbrev pub invariant-steps_inside-loop-step : goal.invariant-steps_inside-loop-step
invariant-steps_inside-loop-step l =
    Adds (map (held_step (surroundings l.here)) (map (step_of l.here.catalog.now) (take l.step-index l.steps))) l.fn.found l.found

abbrev pub invariant-arms_inside-loop-arm : goal.invariant-arms_inside-loop-arm
invariant-arms_inside-loop-arm l =
    Adds (flat_map (held_arm (surroundings l.here)) (map (arm_of l.here.catalog.now) (take l.arm-index l.arms))) l.fn.found l.found
