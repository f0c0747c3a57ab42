use Rattle.std.proofs.Common.{◌≡◌, [], take}
use Rattle.std.specs.Prelude.{true, ◌++◌, map, flat_map}
use Rattle.name_meaning.specs.Expressions.{step_operand, arm_operands}
use Rattle.name_meaning.specs.Operands.{operand}
use Rattle.name_meaning.specs.Trees.{part_of, step_of, arm_of}
use Rattle.name_seen_parts.specs.Standing.{surroundings}
use Rattle.name_seen_cores.specs.Expressed.{OperandsBehind}
use Rattle.sql_tree.specs.declared.source.FromTree.{out-FromTree}
use Rattle.name_meaning.specs.Froms.{first_item, from_all, in_from, join_all, in_clause}
use Rattle.name_meaning.specs.Meanings.{QueryMeant}
use Rattle.name_meaning.specs.Queries.{set_chain}
use Rattle.name_meaning.specs.Trees.{from_item_of, from_of, item_of, join_of, set_step_of}
use Rattle.name_seen_parts.specs.Named.{scopes_of}
use Rattle.name_seen_parts.specs.Standing.{around_of}
use Rattle.name_seen_cores.specs.from.Queried.{ColumnsSeen, FromWhole}
use Rattle.name_seen_cores.specs.declared.from.facts.Facts.{Facts}
use Rattle.name_seen_cores.specs.Listed.{ListWhole, seen_at}
use Rattle.name_seen.proofs.+seen.Given as goal

-- the operands so far
abbrev pub invariant-expressions::operands-loop-tree : goal.invariant-expressions::operands-loop-tree
invariant-expressions::operands-loop-tree l =
    OperandsBehind (map (operand (surroundings l.here) l.need) (map (part_of l.here.catalog.now) (take l.tree-index l.trees))) l.fn.so_far l.fn.facts l.facts l.seen

abbrev pub invariant-expressions::operands_of_steps-loop-step : goal.invariant-expressions::operands_of_steps-loop-step
invariant-expressions::operands_of_steps-loop-step l =
    OperandsBehind (map (step_operand (surroundings l.here)) (map (step_of l.here.catalog.now) (take l.step-index l.steps))) l.fn.so_far l.fn.facts l.facts l.seen

abbrev pub invariant-expressions::operands_of_arms-loop-arm : goal.invariant-expressions::operands_of_arms-loop-arm
invariant-expressions::operands_of_arms-loop-arm l =
    OperandsBehind (flat_map (arm_operands (surroundings l.here)) (map (arm_of l.here.catalog.now) (take l.arm-index l.arms))) l.fn.so_far l.fn.facts l.facts l.seen

-- the sources so far
abbrev pub invariant-sources::from_scope-loop-source : goal.invariant-sources::from_scope-loop-source
invariant-sources::from_scope-loop-source l =
    record {
      seen : FromWhole (from_all (scopes_of l.around.outer.now) (map (from_of l.around.catalog.now) (take l.source-index l.sources))) [] l.fn.facts l.facts l.scope;
      named : l.names.known.keys ≡ l.scope.items;
    }

-- the joins so far
abbrev pub invariant-sources::source_items-loop-step : goal.invariant-sources::source_items-loop-step
invariant-sources::source_items-loop-step l =
    record {
      seen : FromWhole (join_all (scopes_of l.around.outer.now)
          (first_item l.fn.names.known.keys ((from_item_of l.around.catalog.now (out-FromTree l.tree).first).means (in_from (scopes_of l.around.outer.now)) l.fn.names.known.keys))
          (map (join_of l.around.catalog.now) (take l.step-index (out-FromTree l.tree).joins))) l.fn.names.known.keys l.fn.facts l.facts l.scope;
      named : l.names.known.keys ≡ l.fn.names.known.keys ++ l.scope.items;
    }

-- the items of the list so far
abbrev pub invariant-cores::list_seen-loop-item : goal.invariant-cores::list_seen-loop-item
invariant-cores::list_seen-loop-item l =
    ListWhole (map (seen_at l.has_from l.scope (in_clause l.scope (scopes_of l.around.outer.now) true)) (map (item_of l.around.catalog.now) (take l.item-index l.items)))
    l.fn.facts l.facts l.columns

-- the operands so far
abbrev pub invariant-sets::operands_seen-loop-step : goal.invariant-sets::operands_seen-loop-step
invariant-sets::operands_seen-loop-step l = (left : QueryMeant) (before : Facts) → ColumnsSeen left before l.fn.facts l.fn.first
    → ColumnsSeen (set_chain (around_of l.around) left (map (set_step_of l.around.catalog.now) (take l.step-index l.steps))) before l.facts l.seen
