use Rattle.std.proofs.Common.{take, ℕ, List, Bool, []}
use Rattle.std.specs.Prelude.{map}
use Rattle.perm_values.specs.declared.kind.Kind.{Kind}
use Rattle.name_meaning.specs.Operands.{operand}
use Rattle.name_meaning.specs.Trees.{arm_of, part_of, step_of, from_item_of, from_of, join_of, set_step_of, item_of}
use Rattle.name_seen_parts.specs.Standing.{surroundings, around_of}
use Rattle.name_meaning.specs.nodes.Makes.{MakesArms, MakesMore, MakesSteps, MakesQuery}
use Rattle.name_meaning.specs.Froms.{first_item, in_from, join_all}
use Rattle.name_meaning.specs.Meanings.{QueryMeant}
use Rattle.name_meaning.specs.Queries.{set_chain}
use Rattle.sql_tree.specs.declared.source.FromTree.{out-FromTree}
use Rattle.name_seen_parts.specs.Named.{scopes_of}
use Rattle.name_meaning.specs.nodes.Chained.{Serves}
use Rattle.name_made_parts.specs.Sources.{JoinsMade, SourcesMade}
use Rattle.name_meaning.specs.nodes.Listed.{MakesItems}
use Rattle.name_made_parts.specs.Cored.{items_meant}
use Rattle.name_made.proofs.+made.Given as goal

-- the operands so far are made
abbrev pub invariant-expressions::operands_made-loop-tree : goal.invariant-expressions::operands_made-loop-tree
invariant-expressions::operands_made-loop-tree l =
    MakesMore l.here.standing.sublinks l.alike (map (operand (surroundings l.here) l.need) (map (part_of l.here.catalog.now) (take l.tree-index l.trees)))
    [] l.parts l.initial.found l.found

abbrev pub invariant-expressions::steps_made-loop-step : goal.invariant-expressions::steps_made-loop-step
invariant-expressions::steps_made-loop-step l =
    (alike : Kind) → MakesSteps l.here.standing.sublinks alike (surroundings l.here) (map (step_of l.here.catalog.now) (take l.step-index l.steps))
    l.made_steps l.initial.found l.found

abbrev pub invariant-expressions::arms_made-loop-arm : goal.invariant-expressions::arms_made-loop-arm
invariant-expressions::arms_made-loop-arm l =
    MakesArms l.here.standing.sublinks l.alike (surroundings l.here) (map (arm_of l.here.catalog.now) (take l.arm-index l.arms))
    l.made_arms l.initial.found l.found

-- the chain so far is made, where the kinds serve all of it
abbrev pub invariant-queries::chained-loop-step : goal.invariant-queries::chained-loop-step
invariant-queries::chained-loop-step l =
    (meant : QueryMeant) → MakesQuery meant l.kinds l.fn.first
    → Serves (set_chain (around_of l.around) meant (map (set_step_of l.around.catalog.now) l.steps)) l.kinds
    → MakesQuery (set_chain (around_of l.around) meant (map (set_step_of l.around.catalog.now) (take l.step-index l.steps))) l.kinds l.whole

-- the parts of FROM so far are made
abbrev pub invariant-sources::sources_made-loop-source : goal.invariant-sources::sources_made-loop-source
invariant-sources::sources_made-loop-source l =
    SourcesMade (scopes_of l.around.outer.now) (map (from_of l.around.catalog.now) (take l.source-index l.sources)) l.scope l.whole l.first

-- the joins so far are made
abbrev pub invariant-sources::source_made-loop-place : goal.invariant-sources::source_made-loop-place
invariant-sources::source_made-loop-place l =
    (earlier : List (List ℕ)) → JoinsMade (join_all (scopes_of l.around.outer.now)
    (first_item earlier ((from_item_of l.around.catalog.now (out-FromTree l.source).first).means (in_from (scopes_of l.around.outer.now)) earlier))
    (map (join_of l.around.catalog.now) (take l.place (out-FromTree l.source).joins))) l.first l.scope l.whole l.place

-- the items so far are made
abbrev pub invariant-cores::items_made-loop-item : goal.invariant-cores::items_made-loop-item
invariant-cores::items_made-loop-item l =
    (has_from : Bool) → MakesItems l.here.standing.sublinks (items_meant has_from l.scope (surroundings l.here) (map (item_of l.here.catalog.now) (take l.item-index l.items)))
    l.wanted [] l.made_items l.initial.found l.found
