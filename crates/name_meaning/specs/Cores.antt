-- What a core means: FROM, WHERE, GROUP BY, HAVING and the SELECT list, in this order.
use Rattle.std.specs.Prelude.{ℕ, Bool, true, false, cond, not, ◌&&◌, ◌||◌, List, [], ◌∷◌, ◌++◌, map, flat_map, filter_map, is_some, Option, Some, None, option_map}
use Rattle.std.specs.List.{list_any}
use Rattle.std.specs.Option.{option_map_or}
use Rattle.perm_values.specs.declared.kind.Kind.{Kind}
use Rattle.perm_values.specs.declared.kind.Kind.TheVariants as kind
use Rattle.bag_algebra.specs.declared.query.Aggr.{Aggr}
use Rattle.bag_algebra.specs.declared.query.Query.{Query}
use Rattle.bag_algebra.specs.declared.query.Query.TheVariants.{Single, Filter, Project, Distinct, Aggregate}
use Rattle.sql_tree.specs.declared.expression.ExprBody.TheOpen.{Core-F}
use Rattle.sql_tree.specs.declared.name.ColRef.{ColRef}
use Rattle.name_meaning.specs.Froms.{FromMeant, FromPart, from_all, in_clause, optional_meant, optional_breaks, optional_inside}
use Rattle.name_meaning.specs.Items.{SelectMeant, SelectPart, Made, all_known, made_items, named_from, items_breaks, items_inside}
use Rattle.name_meaning.specs.Meanings.{Inside, nothing_inside, both_inside, Surroundings, Before, Built, Meant, Part, Around, OutColumn, QueryMeant, broken, is_whole, settled}
use Rattle.name_meaning.specs.Operands.{behind}
use Rattle.name_meaning.specs.Scopes.{ScopeItem, scope_of, look_up}
use Rattle.name_meaning.specs.Sublinks.{nothing_before, built_alone, null_at}
use Rattle.name_meaning.specs.declared.answer.Break.{Break}
use Rattle.name_meaning.specs.declared.scope.Found.{Found}
use Rattle.name_meaning.specs.declared.scope.Found.TheVariants.{Absent as absent, Ambiguous as ambiguous, Column as found}
use Rattle.name_meaning.specs.declared.scope.Scope.{Scope}
use Rattle.name_meaning.specs.declared.rule.Rule.TheVariants as rule

-- a core, or what stands for one among set operations; `word`: the offset of PROVENANCE behind its first SELECT
pub record BodyPart : Type 0 where
  pub word : Option ℕ
  pub means : Around → QueryMeant

-- ---- columns at kinds that are wanted of them

abbrev pub settle : List OutColumn → List Kind → List Kind
settle [] wanted = []
settle (column ∷ columns) [] = settled column.kind kind.Text ∷ settle columns []
settle (column ∷ columns) (k ∷ ks) = settled column.kind k ∷ settle columns ks

abbrev pub settle_known : Option (List OutColumn) → List Kind → List Kind
settle_known columns wanted = option_map_or (λ known. settle known wanted) columns []

-- ---- the clauses, seen

-- a condition made, behind what stands before it
abbrev pub optional_built : Option Meant → Built
optional_built m = option_map_or (λ (meant : Meant). meant.make kind.Boolean nothing_before) m (built_alone (null_at kind.Boolean))

-- GROUP BY columns are looked for in the core's own scope alone
abbrev pub group_found : Scope → ColRef → Found
group_found scope reference = look_up 0 (scope ∷ []) reference

abbrev pub group_break : Scope → ColRef → List Break
group_break scope reference = elim (group_found scope reference) [
  | absent ↦ broken rule.UnknownColumn reference.at ∷ []
  | ambiguous ↦ broken rule.AmbiguousColumn reference.at ∷ []
  | found column ↦ []
]

abbrev pub group_place : Scope → ColRef → Option ℕ
group_place scope reference = elim (group_found scope reference) [ absent ↦ None | ambiguous ↦ None | found column ↦ column.place ]

-- a core is grouped by GROUP BY, by HAVING, or by an aggregate of its own in its SELECT list
abbrev pub is_grouped : List ColRef → Option Part → List SelectPart → Bool
is_grouped [] having items = is_some having || list_any (λ (item : SelectPart). item.aggregating) items
is_grouped (group ∷ groups) having items = true

abbrev pub group_scope : Scope → List ColRef → Option Part → List SelectPart → Scope
group_scope scope groups having items =
    record scope { groups = cond (is_grouped groups having items) (Some (filter_map (group_place scope) groups)) None }

-- ---- the clauses, made

abbrev pub filtered : Query → Option Meant → Query
filtered input None = input
filtered input (Some m) = Filter input (optional_built (Some m)).expr (optional_built (Some m)).subs

-- the aggregates of HAVING stand before those of the SELECT list
abbrev pub aggregated_input : Query → Option (List ℕ) → List Aggr → Query
aggregated_input input None aggregates = input
aggregated_input input (Some groups) aggregates = Aggregate input groups aggregates

abbrev pub distinct_if : Bool → Query → Query
distinct_if is_distinct query = cond is_distinct (Distinct query) query

abbrev pub core_query : Query → Option Meant → Option (List ℕ) → Option Meant → Made → Bool → Query
core_query input where_meant groups having_meant list is_distinct =
    let rows = aggregated_input (filtered input where_meant) groups ((optional_built having_meant).aggregates ++ list.aggregates) in
    distinct_if is_distinct (Project (filtered rows having_meant) list.items list.subs)

-- ---- the whole

-- what is looked at where FROM is whole
pub record ClausesMeant : Type 0 where
  pub input : FromMeant
  pub where_meant : Option Meant
  pub groups : Option (List ℕ)
  pub having_meant : Option Meant
  pub list : List SelectMeant

abbrev pub list_columns : ClausesMeant → Option (List OutColumn)
list_columns k = option_map (named_from 1) (all_known k.list)

-- in the list, aggregates stand behind those of HAVING
abbrev pub before_list : ClausesMeant → Before
before_list k = behind nothing_before [] (optional_built k.having_meant).aggregates

abbrev pub clauses_query : ClausesMeant → Bool → List Kind → Query
clauses_query k is_distinct wanted = core_query k.input.query k.where_meant k.groups k.having_meant
    (made_items k.list (settle_known (list_columns k) wanted) (before_list k)) is_distinct

abbrev pub clauses_inside : ClausesMeant → Inside
clauses_inside k = both_inside (items_inside k.list)
    (both_inside k.input.inside (both_inside (optional_inside k.where_meant) (optional_inside k.having_meant)))

abbrev pub core_meant : List Break → List Break → ClausesMeant → Bool → QueryMeant
core_meant word_breaks clause_breaks k is_distinct = record {
  breaks = word_breaks ++ clause_breaks;
  columns = list_columns k;
  places = None;
  keys = [];
  inside = clauses_inside k;
  make = λ wanted. clauses_query k is_distinct wanted;
}

-- where FROM breaks, nothing behind it is looked at
abbrev pub core_unlooked : List Break → FromMeant → QueryMeant
core_unlooked word_breaks input = record {
  breaks = word_breaks ++ input.breaks;
  columns = None;
  places = None;
  keys = [];
  inside = nothing_inside;
  make = λ wanted. Single;
}

abbrev pub core_clauses : Surroundings → Surroundings → Scope → Bool → FromMeant → Option Part → Option Part → List SelectPart → ClausesMeant
core_clauses here grouped_here grouped has_from input condition having items = record {
  input = input;
  where_meant = optional_meant here condition;
  groups = grouped.groups;
  having_meant = optional_meant grouped_here having;
  list = map (λ (item : SelectPart). item.means has_from grouped grouped_here) items;
}

abbrev pub clause_breaks : Scope → Option Part → List ColRef → Option Part → ClausesMeant → List Break
clause_breaks scope condition groups having k = optional_breaks condition k.where_meant ++ flat_map (group_break scope) groups
    ++ optional_breaks having k.having_meant ++ items_breaks k.list

abbrev pub has_some : {X : Type 0} → List X → Bool
has_some [] = false
has_some (x ∷ xs) = true

-- the core over the items of its FROM
abbrev pub core_over : List Scope → List Break → FromMeant → Bool → Bool → List SelectPart → Option Part → List ColRef → Option Part
    → List ScopeItem → QueryMeant
core_over outer word_breaks input has_from is_distinct items condition groups having scope_items =
    let own : Scope = scope_of scope_items in
    let grouped : Scope = group_scope own groups having items in
    let k : ClausesMeant = core_clauses (in_clause own outer false) (in_clause grouped outer true) grouped has_from input condition having items in
    core_meant word_breaks (clause_breaks own condition groups having k) k is_distinct

-- PROVENANCE stands wrongly where it isn't the word of a whole query
abbrev pub is_misplaced : Around → Option ℕ → Bool
is_misplaced around word = not around.may_ask && is_some word

abbrev pub word_breaks : Around → Option ℕ → List Break
word_breaks around word = cond around.may_ask [] (option_map_or (λ at. broken rule.MisplacedProvenance at ∷ []) word [])

-- the core, its FROM seen
abbrev pub core_seen : Around → Option ℕ → FromMeant → Bool → Bool → List SelectPart → Option Part → List ColRef → Option Part → QueryMeant
core_seen around word input has_from is_distinct items condition groups having = cond (is_whole input.breaks)
    (core_over around.outer (word_breaks around word) input has_from is_distinct items condition groups having
    (option_map_or (λ known. known) input.items []))
    (core_unlooked (word_breaks around word) input)

abbrev pub core_step : {B S F A U C Q W G J : Type 0} → Core-F B SelectPart S F A U Part C Q W G FromPart J → BodyPart
core_step tree = record {
  word = tree.provenance;
  means = λ around. core_seen around tree.provenance (from_all around.outer tree.sources)
      (has_some tree.sources) tree.distinct tree.items tree.condition tree.groups tree.having;
}
