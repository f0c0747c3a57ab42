-- What the second pass makes of the clauses of a core.
use Rattle.std.specs.Prelude.{◌≡◌, Bool, true, false, List, [], map, Option, Some, None, option_map}
use Rattle.bag_algebra.specs.declared.expr.Expr.{Expr}
use Rattle.bag_algebra.specs.declared.query.Aggr.{Aggr}
use Rattle.perm_catalog.specs.Contents.{Contents}
use Rattle.perm_values.specs.declared.kind.Kind.{Kind}
use Rattle.sql_tree.specs.declared.name.ColRef.{ColRef}
use Rattle.sql_tree.specs.declared.query.Core.{Core, out-Core}
use Rattle.name_meaning.specs.Cores.{core_over, has_some, optional_built}
use Rattle.name_meaning.specs.Froms.{FromMeant, FromPart, from_all, in_clause, optional_meant}
use Rattle.name_meaning.specs.Items.{SelectMeant, SelectPart}
use Rattle.name_meaning.specs.Meanings.{Around, Meant, Part, QueryMeant, Surroundings}
use Rattle.name_meaning.specs.Scopes.{ScopeItem}
use Rattle.name_meaning.specs.Trees.{from_of, item_of, part_of}
use Rattle.name_meaning.specs.declared.answer.Break.{Break}
use Rattle.name_meaning.specs.declared.scope.Scope.{Scope}
use Rattle.name_meaning.specs.nodes.Listed.{MakesItems}
use Rattle.name_meaning.specs.declared.nodes.cores.Clauses.{Clauses}
use Rattle.name_meaning.specs.declared.nodes.cores.Condition.{Condition}
use Rattle.name_meaning.specs.declared.nodes.cores.Listed.{Listed}
use Rattle.name_meaning.specs.declared.nodes.within.Within.{Within}
use Rattle.name_seen_parts.specs.Named.{here_only}
use Rattle.name_made_parts.specs.declared.asked.cores.MadeCondition.{MadeCondition}

-- ---- the parts of a core

abbrev pub core_groups : Core → List ColRef
core_groups core = (out-Core core).groups

abbrev pub source_parts : Contents → Core → List FromPart
source_parts c core = map (from_of c) (out-Core core).sources

abbrev pub select_parts : Contents → Core → List SelectPart
select_parts c core = map (item_of c) (out-Core core).items

abbrev pub condition_part : Contents → Core → Option Part
condition_part c core = option_map (part_of c) (out-Core core).condition

abbrev pub having_part : Contents → Core → Option Part
having_part c core = option_map (part_of c) (out-Core core).having

abbrev pub sources_meant : Contents → Around → Core → FromMeant
sources_meant c around core = from_all around.outer (source_parts c core)

-- the core over the items of its FROM
abbrev pub core_over_items : Contents → Around → Core → List Break → List ScopeItem → QueryMeant
core_over_items c around core breaks items = core_over around.outer breaks (sources_meant c around core)
    (has_some (source_parts c core)) (out-Core core).distinct (select_parts c core) (condition_part c core) (out-Core core).groups (having_part c core) items

-- ---- conditions

-- the rows before they are grouped
abbrev pub in_rows : Around → Scope → Surroundings
in_rows around scope = in_clause (here_only true scope) around.outer false

abbrev pub in_groups : Around → Scope → Surroundings
in_groups around scope = in_clause scope around.outer true

abbrev pub condition_of : Meant → Condition
condition_of m = record { expr = (optional_built (Some m)).expr; subs = (optional_built (Some m)).subs }

abbrev pub kept_of : Expr → Within → MadeCondition
kept_of expr found = record { condition = Some (record { expr = expr; subs = found.subs }); aggregates = found.aggregates }

-- what a condition breaks, if there is one
abbrev pub own_breaks : Option Meant → List Break
own_breaks None = []
own_breaks (Some m) = m.breaks

-- a condition with its sublinks, and its aggregates
pub record AreKept (meant : Option Meant) (kept : MadeCondition) : Type 0 where
  pub condition : kept.condition ≡ option_map condition_of meant
  pub aggregates : kept.aggregates ≡ (optional_built meant).aggregates

-- made, where it breaks nothing
abbrev pub Keeps : Option Meant → MadeCondition → Type 0
Keeps meant kept = own_breaks meant ≡ [] → AreKept meant kept

-- ---- the list

abbrev pub items_meant : Bool → Scope → Surroundings → List SelectPart → List SelectMeant
items_meant has_from scope here items = map (λ (item : SelectPart). item.means has_from scope here) items

-- the list behind the aggregates of HAVING
abbrev pub MakesList : Around → Scope → List SelectPart → List Kind → List Aggr → Listed → Type 0
MakesList around scope items wanted aggregates list = (has_from : Bool) → MakesItems true (items_meant has_from scope (in_groups around scope) items) wanted
    [] list.items (record { subs = []; aggregates = aggregates }) (record { subs = list.subs; aggregates = list.aggregates })

-- HAVING and the list behind it
pub record MakesSelected (around : Around) (scope : Scope) (condition : Option Part) (items : List SelectPart) (wanted : List Kind) (having : Option Condition) (list : Listed) : Type 0 where
  pub kept : own_breaks (optional_meant (in_groups around scope) condition) ≡ []
      → having ≡ option_map condition_of (optional_meant (in_groups around scope) condition)
  pub listed : own_breaks (optional_meant (in_groups around scope) condition) ≡ []
      → MakesList around scope items wanted (optional_built (optional_meant (in_groups around scope) condition)).aggregates list

-- all clauses
pub record MakesClauses (c : Contents) (around : Around) (core : Core) (scope : Scope) (wanted : List Kind) (clauses : Clauses) : Type 0 where
  pub kept : own_breaks (optional_meant (in_rows around scope) (condition_part c core)) ≡ []
      → clauses.condition ≡ option_map condition_of (optional_meant (in_rows around scope) (condition_part c core))
  pub groups : clauses.groups ≡ scope.groups
  pub selected : MakesSelected around scope (having_part c core) (select_parts c core) wanted clauses.having clauses.list
  pub distinct : clauses.distinct ≡ (out-Core core).distinct
