use Rattle.std.specs.Prelude.{◌≡◌, ℕ, Bool, List, map, flat_map}
use Rattle.std.proofs.Common.{take}
use Rattle.perm_catalog.specs.Contents.{Contents}
use Rattle.perm_catalog.specs.Sound.{IsSound}
use Rattle.sql_tree.specs.declared.source.FromTree.{out-FromTree}
use Rattle.name_made_parts.specs.Cored.{items_meant}
use Rattle.name_meaning.specs.Expressions.{arm_operands, step_operand}
use Rattle.name_meaning.specs.Froms.{first_item, from_all, in_from, join_all}
use Rattle.name_meaning.specs.Meanings.{Around, QueryMeant, Surroundings}
use Rattle.name_meaning.specs.Operands.{operand}
use Rattle.name_meaning.specs.Queries.{set_chain}
use Rattle.name_meaning.specs.Trees.{arm_of, from_item_of, from_of, item_of, join_of, part_of, set_step_of, step_of}
use Rattle.name_meaning.specs.declared.need.Need.{Need}
use Rattle.name_meaning.specs.declared.scope.Scope.{Scope}
use Rattle.name_inside.specs.heights.Least.{arm_least, chain_least, expr_least, from_least, highest, item_least, join_least, listed_least, operand_least, sources_least, step_least}
use Rattle.name_inside.specs.heights.High.{FromHigh, ListHigh, OperandsHigh, QueryHigh}
use Rattle.name_inside.proofs.heights.+height.Given as goal

-- how high those so far are
abbrev pub invariant-chain_height-loop-step : goal.invariant-chain_height-loop-step
invariant-chain_height-loop-step l = (l.height ≡ chain_least l.before (map operand_least (take l.step-index l.steps)))
    × ((c : Contents) (around : Around) (left : QueryMeant) → IsSound c → QueryHigh l.before left
    → QueryHigh l.height (set_chain around left (map (set_step_of c) (take l.step-index l.steps))))

abbrev pub invariant-sources_height-loop-place : goal.invariant-sources_height-loop-place
invariant-sources_height-loop-place l = (l.height ≡ sources_least (map from_least (take l.place l.sources)))
    × ((c : Contents) (outer : List Scope) → IsSound c
    → FromHigh l.height (from_all outer (map (from_of c) (take l.place l.sources))))

abbrev pub invariant-source_height-loop-step : goal.invariant-source_height-loop-step
invariant-source_height-loop-step l = (l.height ≡ chain_least (item_least (out-FromTree l.tree).first) (map join_least (take l.step-index (out-FromTree l.tree).joins)))
    × ((c : Contents) (outer : List Scope) (earlier : List (List ℕ)) → IsSound c
    → FromHigh l.height (join_all outer (first_item earlier ((from_item_of c (out-FromTree l.tree).first).means (in_from outer) earlier))
    (map (join_of c) (take l.step-index (out-FromTree l.tree).joins))))

abbrev pub invariant-items_height-loop-item : goal.invariant-items_height-loop-item
invariant-items_height-loop-item l = (l.height ≡ highest (map listed_least (take l.item-index l.items)))
    × ((c : Contents) (has_from : Bool) (scope : Scope) (here : Surroundings) → IsSound c
    → ListHigh l.height (items_meant has_from scope here (map (item_of c) (take l.item-index l.items))))

abbrev pub invariant-expressions_height-loop-tree : goal.invariant-expressions_height-loop-tree
invariant-expressions_height-loop-tree l = (l.height ≡ highest (map expr_least (take l.tree-index l.trees)))
    × ((c : Contents) (here : Surroundings) (need : Need) → IsSound c
    → OperandsHigh l.height (map (operand here need) (map (part_of c) (take l.tree-index l.trees))))

abbrev pub invariant-steps_height-loop-step : goal.invariant-steps_height-loop-step
invariant-steps_height-loop-step l = (l.height ≡ highest (map step_least (take l.step-index l.steps)))
    × ((c : Contents) (here : Surroundings) → IsSound c
    → OperandsHigh l.height (map (step_operand here) (map (step_of c) (take l.step-index l.steps))))

abbrev pub invariant-arms_height-loop-arm : goal.invariant-arms_height-loop-arm
invariant-arms_height-loop-arm l = (l.height ≡ highest (map arm_least (take l.arm-index l.arms)))
    × ((c : Contents) (here : Surroundings) → IsSound c
    → OperandsHigh l.height (flat_map (arm_operands here) (map (arm_of c) (take l.arm-index l.arms))))
