-- What stands inside parts that may break.
use Rattle.std.specs.Prelude.{◌≡◌, ℕ, Bool, true, false, List, [], ◌∷◌, ◌++◌, map, Option, Some, None, nat_lt}
use Rattle.perm_catalog.specs.Contents.{Contents}
use Rattle.sql_tree.specs.declared.query.Core.{Core}
use Rattle.name_meaning.specs.Cores.{has_some}
use Rattle.name_meaning.specs.Expressions.{ArmPart, StepPart}
use Rattle.name_meaning.specs.Froms.{FromItemPart, FromMeant, FromPart, ItemMeant, JoinPart, Read, from_all, in_clause, join_item, joined_item}
use Rattle.name_meaning.specs.Items.{SelectMeant, SelectPart}
use Rattle.name_meaning.specs.Meanings.{Around, Inside, Meant, Part, QueryMeant, Surroundings, both_inside, nothing_inside, means_at}
use Rattle.name_meaning.specs.Queries.{SetStepPart, may_not_ask}
use Rattle.name_meaning.specs.Statements.{most_query_columns}
use Rattle.name_meaning.specs.declared.answer.Break.{Break}
use Rattle.name_meaning.specs.declared.scope.Scope.{Scope}
use Rattle.name_inside.specs.declared.gathered.Gathered.{Gathered}
use Rattle.name_meaning.specs.Scopes.{ScopeItem, scope_of}
use Rattle.name_inside.specs.Passed.{IsReadAs, PutsRead}
use Rattle.perm_catalog.specs.declared.column.Column.{Column}
use Rattle.name_made_parts.specs.Cored.{select_parts, source_parts, condition_part, having_part}

abbrev pub inside_in : Gathered → Inside
inside_in found = record { queries = found.queries; names = found.names }

abbrev pub query_alone : ℕ → ℕ → Inside
query_alone at columns = record { queries = (at, columns) ∷ []; names = [] }

abbrev pub names_alone : List (List ℕ) → Inside
names_alone names = record { queries = []; names = names }

-- more columns than a query may have
abbrev pub is_wide : ℕ → Bool
is_wide columns = nat_lt most_query_columns columns

-- ---- parts

pub record Held : Type 0 where
  pub breaks : List Break
  pub inside : Inside

abbrev pub held : Meant → Held
held m = record { breaks = m.breaks; inside = m.inside }

abbrev pub held_at : Surroundings → Part → Held
held_at here part = held (means_at part here)

abbrev pub held_step : Surroundings → StepPart → Held
held_step here step = held_at here step.part

abbrev pub held_arm : Surroundings → ArmPart → List Held
held_arm here arm = held_at here arm.condition ∷ held_at here arm.value ∷ []

abbrev pub held_optional : Surroundings → Option Part → List Held
held_optional here None = []
held_optional here (Some part) = held_at here part ∷ []

abbrev pub held_query : QueryMeant → Held
held_query m = record { breaks = m.breaks; inside = m.inside }

abbrev pub held_select : SelectMeant → Held
held_select m = record { breaks = m.breaks; inside = m.inside }

abbrev pub held_item : ItemMeant → Held
held_item m = record { breaks = m.breaks; inside = m.inside }

abbrev pub held_read : Read → Held
held_read m = record { breaks = m.breaks; inside = m.inside }

abbrev pub held_from : FromMeant → Held
held_from m = record { breaks = m.breaks; inside = m.inside }

-- ---- several parts from the left

abbrev pub all_breaks : List Held → List Break
all_breaks [] = []
all_breaks (part ∷ parts) = part.breaks ++ all_breaks parts

abbrev pub all_inside : List Held → Inside
all_inside [] = nothing_inside
all_inside (part ∷ parts) = both_inside part.inside (all_inside parts)

-- where they break nothing, what stands inside them comes behind what was gathered before
pub record Adds (parts : List Held) (old new : Gathered) : Type 0 where
  pub adds : all_breaks parts ≡ [] → inside_in new ≡ both_inside (inside_in old) (all_inside parts)

-- ---- what FROM, set operations and cores are made of

abbrev pub held_operand : Around → SetStepPart → Held
held_operand around step = held_query (step.operand.means (may_not_ask around))

abbrev pub held_items : Bool → Scope → Surroundings → List SelectPart → List Held
held_items has_from scope here items = map (λ (item : SelectPart). held_select (item.means has_from scope here)) items

-- the clauses of a core in this scope: the list, FROM, WHERE and HAVING
abbrev pub held_clauses : Around → Scope → Bool → List SelectPart → List FromPart → Option Part → Option Part → List Held
held_clauses around scope has_from items sources condition having =
    held_items has_from scope (in_clause scope around.outer true) items
    ++ (held_from (from_all around.outer sources)
    ∷ (held_optional (in_clause (record scope { groups = None }) around.outer false) condition
    ++ held_optional (in_clause scope around.outer true) having))

abbrev pub clauses_of : Contents → Around → Scope → Core → List Held
clauses_of c around scope core =
    held_clauses around scope (has_some (source_parts c core)) (select_parts c core) (source_parts c core) (condition_part c core) (having_part c core)

-- ---- FROM, gone through from the left

-- the scope of its items
pub record IsOwn (m : FromMeant) (own : Scope) : Type 0 where
  pub items : List ScopeItem
  pub known : m.items ≡ Some items
  pub is : own ≡ scope_of items

-- a part of FROM with its joins so far, and the scope of its items where it breaks nothing
pub record FromAdded (m : FromMeant) (old new : Gathered) (own : Scope) : Type 0 where
  pub adds : Adds (held_from m ∷ []) old new
  pub own_is : m.breaks ≡ [] → IsOwn m own

-- an item whose subquery stands there, and which comes in scope
pub record AddsItem (around : Around) (item : FromItemPart) (own wider : Scope) (old new : Gathered) : Type 0 where
  pub adds : (names : List (List ℕ)) → Adds (held_item (item.means around names) ∷ []) old new
  pub read : Option (List ℕ × List Column)
  pub reads : (names : List (List ℕ)) → IsReadAs (item.means around names) read
  pub puts : PutsRead read own wider

-- one more join of what is in scope
abbrev pub AddsJoin : List Scope → JoinPart → Scope → Scope → Gathered → Gathered → Type 0
AddsJoin outer step own wider middle new = (left : FromMeant) (old : Gathered) → FromAdded left old middle own
    → FromAdded (join_item outer left step (joined_item outer left step)) old new wider
