-- A core that breaks nothing is made well formed.
use Rattle.std.specs.Prelude.{◌≡◌, ⊤, ℕ, ◌+◌, Bool, true, false, cond, not, List, [], ◌∷◌, ◌++◌, flat_map, filter_map, length, is_some, Option, Some, None}
use Rattle.std.proofs.Common.{refl, ap, sym, ◌∙◌, subst, true≢false}
use Rattle.std.proofs.lemmas.List.Elements.{All-append}
use Rattle.std.specs.List.{list_any, AllByRecursion as Every}
use Rattle.perm_values.specs.Rows.{PlacesWithin}
use Rattle.perm_values.specs.declared.kind.Kind.{Kind}
use Rattle.perm_values.specs.declared.kind.Kind.TheVariants.{Boolean}
use Rattle.perm_values.proofs.Lists.{front-none, back-none}
use Rattle.perm_values.proofs.Steps.{by}
use Rattle.bag_algebra.specs.built.Openings.{kinds_of-Filter, kinds_of-Aggregate}
use Rattle.bag_algebra.specs.built.Forms.{subs_kinds, WellFormed-Filter, WellFormed-Project, WellFormed-Distinct, WellFormed-Aggregate}
use Rattle.bag_algebra.specs.Kinds.{kinds_of, kinds_in, width_of, aggregate_kinds}
use Rattle.bag_algebra.specs.WellFormed.{WellFormed, AggregatesForm, aggr_form}
use Rattle.bag_algebra.specs.declared.query.Aggr.{Aggr}
use Rattle.bag_algebra.specs.declared.query.Query.{Query}
use Rattle.bag_algebra.specs.declared.query.Query.TheVariants.{Project, Aggregate}
use Rattle.sql_tree.specs.declared.name.ColRef.{ColRef}
use Rattle.bag_algebra.proofs.Truths.{left-false, right-false}
use Rattle.name_meaning.specs.Cores.{settle_known, optional_built, group_break, group_place, group_scope, is_grouped, filtered, distinct_if, core_query, ClausesMeant, list_columns, before_list, clauses_query, core_clauses, clause_breaks}
use Rattle.name_meaning.specs.Froms.{FromMeant, condition_breaks, in_clause, optional_meant, optional_breaks}
use Rattle.name_meaning.specs.Items.{Made, SelectPart, made_items, items_breaks}
use Rattle.name_meaning.specs.Meanings.{Surroundings, Built, Meant, Part, broken_if, seen_kind, unites, settled}
use Rattle.name_meaning.specs.Scopes.{ScopeItem, scope_of, ungrouped}
use Rattle.name_meaning.specs.Sublinks.{nothing_before}
use Rattle.name_meaning.specs.declared.answer.Break.{Break}
use Rattle.name_meaning.specs.declared.scope.Scope.{Scope}
use Rattle.name_meaning.specs.laws.Formed.{IsFormedExpr}
use Rattle.name_meaning.specs.laws.Standing.{HoldsScope, RowsHold, AggregatesStand}
use Rattle.name_meaning.proofs.Arms.{GoodOptional}
use Rattle.name_meaning.proofs.FormedParts.{none-formed}
use Rattle.name_meaning.proofs.GoodMeant.{GoodMeant}
use Rattle.name_meaning.proofs.Grouped.{groups-in, grouped-holds, grouped-stand}
use Rattle.name_meaning.proofs.Items.{IsFormedList, GoodItem, good-list, plain-list, items-good, items-plain}
use Rattle.name_meaning.proofs.Needs.{settled-of_kind}
use Rattle.name_meaning.proofs.Standing.{stand-whole, aggregates-append}
use Rattle.name_meaning.specs.declared.rule.Rule.TheVariants as rule
use Rattle.name_meaning.proofs.Every.{whole-kind, unbroken}

-- ---- conditions

abbrev pub FormedOptional : Surroundings → Option Meant → Type 0
FormedOptional here None = ⊤
FormedOptional here (Some m) = IsFormedExpr here nothing_before (m.make Boolean nothing_before) Boolean

pub formed-condition : (here : Surroundings) (at : ℕ) (m : Meant) → GoodMeant here m → condition_breaks at m ≡ []
    → IsFormedExpr here nothing_before (m.make Boolean nothing_before) Boolean
formed-condition here at m good whole =
    let kinded = broken_if (not (unites (Some Boolean) (seen_kind m))) rule.UnfitKind at in
    let own = front-none m.breaks kinded whole in
    let unite = unbroken (unites (Some Boolean) (seen_kind m)) rule.UnfitKind at (back-none m.breaks kinded whole) in
    let is : settled m.kind Boolean ≡ Boolean = ap (λ k. settled k Boolean) (sym (whole-kind m own)) ∙ settled-of_kind Boolean (seen_kind m) unite in
    subst (IsFormedExpr here nothing_before (m.make Boolean nothing_before)) is (good own Boolean nothing_before)

formed-optional : (here : Surroundings) (part : Option Part) → GoodOptional part → optional_breaks part (optional_meant here part) ≡ []
    → FormedOptional here (optional_meant here part)
formed-optional here None good whole = tt
formed-optional here (Some part) good whole = formed-condition here part.at (part.means here) (good.formed here) whole

kinds-filtered : (input : Query) (m : Option Meant) → kinds_of (filtered input m) ≡ kinds_of input
kinds-filtered input None = refl
kinds-filtered input (Some m) = kinds_of-Filter input (optional_built (Some m)).expr (optional_built (Some m)).subs

formed-filtered : (here : Surroundings) (input : Query) (m : Option Meant) (rows : List (List Kind)) → FormedOptional here m
    → RowsHold here.scopes (kinds_of input ∷ rows) → AggregatesStand here.scopes 0 (optional_built m).aggregates (kinds_of input ∷ rows)
    → WellFormed rows input → WellFormed rows (filtered input m)
formed-filtered here input None rows formed hold stand f = f
formed-filtered here input (Some m) rows formed hold stand f =
    let made : Built = m.make Boolean nothing_before in
    by (sym (WellFormed-Filter rows input made.expr made.subs)) (record {
      input = f;
      subs = formed.subs_formed (kinds_of input ∷ rows) hold stand;
      condition = formed.holds (kinds_of input ∷ rows) (subs_kinds made.subs) hold stand (stand-whole (subs_kinds made.subs));
    })

-- a condition's aggregates, in the form in which a list of them is one
arguments-formed : (here : Surroundings) (m : Option Meant) (rows : List (List Kind)) → FormedOptional here m
    → RowsHold (ungrouped here.scopes) rows
    → AggregatesForm rows (optional_built m).aggregates
arguments-formed here None rows formed hold = none-formed rows
arguments-formed here (Some m) rows formed hold = formed.aggregates_formed rows hold

without-aggregates : (here : Surroundings) (m : Option Meant) → FormedOptional here m → here.aggregates ≡ false → (optional_built m).aggregates ≡ []
without-aggregates here None formed none = refl
without-aggregates here (Some m) formed none = formed.without_aggregates none

-- ---- the list over the rows that it sees

formed-project : (here : Surroundings) (input : Query) (list : Made) (before_aggregates : ℕ) (rows : List (List Kind)) (is_distinct : Bool)
    → IsFormedList here (record { subs = 0; aggregates = before_aggregates }) list
    → RowsHold here.scopes (kinds_of input ∷ rows) → AggregatesStand here.scopes before_aggregates list.aggregates (kinds_of input ∷ rows)
    → WellFormed rows input → WellFormed rows (distinct_if is_distinct (Project input list.items list.subs))
formed-project here input list before_aggregates rows is_distinct formed hold stand f = distinct is_distinct where
  projected : WellFormed rows (Project input list.items list.subs)
  projected = by (sym (WellFormed-Project rows input list.items list.subs)) (record {
    input = f;
    subs = formed.subs_formed (kinds_of input ∷ rows) hold stand;
    items = formed.holds (kinds_of input ∷ rows) (subs_kinds list.subs) hold stand (stand-whole (subs_kinds list.subs));
  })

  distinct : (b : Bool) → WellFormed rows (distinct_if b (Project input list.items list.subs))
  distinct true = by (sym (WellFormed-Distinct rows (Project input list.items list.subs))) projected
  distinct false = projected

-- ---- the whole core

-- what stands in a core whose rows are well formed and hold its scope
pub record CoreStands (outer : List Scope) (rows : List (List Kind)) (own : Scope) (input : Query) : Type 0 where
  pub around : RowsHold outer rows
  pub formed : WellFormed rows input
  pub holds : HoldsScope (record own { groups = None }) (kinds_of input)

module _ (outer : List Scope) (rows : List (List Kind)) (own : Scope) (input : Query) (core : CoreStands outer rows own input) where
  abbrev own_here : Surroundings
  own_here = in_clause (record own { groups = None }) outer false

  where-formed : (m : Option Meant) → FormedOptional own_here m → WellFormed rows (filtered input m)
  where-formed m formed = formed-filtered own_here input m rows formed (core.holds, core.around)
      (subst (λ aggregates. AggregatesStand own_here.scopes 0 aggregates (kinds_of input ∷ rows)) (sym (without-aggregates own_here m formed refl)) tt) core.formed

  -- a core that isn't grouped
  pub plain-core : (condition : Option Meant) (list : Made) (is_distinct : Bool) → FormedOptional own_here condition
      → IsFormedList (in_clause (record own { groups = None }) outer true) (record { subs = 0; aggregates = 0 }) list → list.aggregates ≡ []
      → WellFormed rows (core_query input condition None None list is_distinct)
  plain-core condition list is_distinct formed listed none =
      let rows_made : Query = filtered input condition in
      let kinds = kinds-filtered input condition in
      formed-project (in_clause (record own { groups = None }) outer true) rows_made list 0 rows is_distinct listed
      (subst (HoldsScope (record own { groups = None })) (sym kinds) core.holds, core.around)
      (subst (λ aggregates. AggregatesStand (record own { groups = None } ∷ outer) 0 aggregates (kinds_of rows_made ∷ rows)) (sym none) tt)
      (where-formed condition formed)

  -- a grouped core
  pub grouped-core : (condition : Option Meant) (groups : List ℕ) (having : Option Meant) (list : Made) (is_distinct : Bool)
      → FormedOptional own_here condition → PlacesWithin (width_of input) groups
      → FormedOptional (in_clause (record own { groups = Some groups }) outer true) having
      → IsFormedList (in_clause (record own { groups = Some groups }) outer true)
      (record { subs = 0; aggregates = 0 + length (optional_built having).aggregates }) list
      → WellFormed rows (core_query input condition (Some groups) having list is_distinct)
  grouped-core condition groups having list is_distinct formed within has listed =
      let here : Surroundings = in_clause (record own { groups = Some groups }) outer true in
      let before : List Aggr = (optional_built having).aggregates in
      let aggregates : List Aggr = before ++ list.aggregates in
      let seen : Query = filtered input condition in
      let kinds : kinds_of seen ≡ kinds_of input = kinds-filtered input condition in
      let rows_made : Query = Aggregate seen groups aggregates in
      let row : kinds_of rows_made ≡ kinds_in (kinds_of input) groups ++ aggregate_kinds aggregates =
      kinds_of-Aggregate seen groups aggregates ∙ ap (λ ks. kinds_in ks groups ++ aggregate_kinds aggregates) kinds in
      let own_holds = subst (HoldsScope (record own { groups = None })) (sym kinds) core.holds in
      let over = λ (aggregate : Aggr). aggr_form aggregate.function aggregate.argument (kinds_of seen ∷ rows) aggregate.kind in
      let aggregated : WellFormed rows rows_made = by (sym (WellFormed-Aggregate rows seen groups aggregates)) (record {
        input = where-formed condition formed;
        groups = subst (λ ks. PlacesWithin (length ks) groups) (sym kinds) within;
        aggregates = All-append over before list.aggregates
            (arguments-formed here having (kinds_of seen ∷ rows) has (own_holds, core.around))
            (listed.aggregates_formed (kinds_of seen ∷ rows) (own_holds, core.around));
      }) in
      let hold : RowsHold here.scopes (kinds_of rows_made ∷ rows) = (
        subst (HoldsScope (record own { groups = Some groups })) (sym row)
            (grouped-holds own (kinds_of input) (aggregate_kinds aggregates) groups core.holds),
        core.around,
      ) in
      let stand : AggregatesStand here.scopes 0 aggregates (kinds_of rows_made ∷ rows) =
      subst (λ ks. AggregatesStand here.scopes 0 aggregates (ks ∷ rows)) (sym row)
      (grouped-stand own outer (kinds_of input) rows groups aggregates) in
      let parts = aggregates-append here.scopes 0 before list.aggregates (kinds_of rows_made ∷ rows) stand in
      let chosen : Query = filtered rows_made having in
      let same : kinds_of chosen ≡ kinds_of rows_made = kinds-filtered rows_made having in
      formed-project here chosen list (0 + length before) rows is_distinct listed
      (subst (HoldsScope (record own { groups = Some groups })) (sym same) hold.0, core.around)
      (subst (λ ks. AggregatesStand here.scopes (0 + length before) list.aggregates (ks ∷ rows)) (sym same) parts.1)
      (formed-filtered here rows_made having rows has hold parts.0 aggregated)

-- ---- its clauses

module _ (outer : List Scope) (rows : List (List Kind)) (scope_items : List ScopeItem) (from : FromMeant)
    (core : CoreStands outer rows (scope_of scope_items) from.query) (has_from is_distinct : Bool) (items : List SelectPart) (good : Every GoodItem items)
    (condition : Option Part) (good_condition : GoodOptional condition) (groups : List ColRef) (wanted : List Kind) where
  abbrev own : Scope
  own = scope_of scope_items

  abbrev with_groups : Option (List ℕ) → Scope
  with_groups places = record own { groups = places }

  abbrev clauses : Option (List ℕ) → Option Part → ClausesMeant
  clauses places having =
      core_clauses (in_clause own outer false) (in_clause (with_groups places) outer true) (with_groups places) has_from from condition having items

  abbrev own_list : Option (List ℕ) → Option Part → Made
  own_list places having =
      made_items (clauses places having).list (settle_known (list_columns (clauses places having)) wanted) (before_list (clauses places having))

  abbrev group_places : List ℕ
  group_places = filter_map (group_place own) groups

  grouped-clauses : (having : Option Part) → GoodOptional having → clause_breaks own condition groups having (clauses (Some group_places) having) ≡ []
      → WellFormed rows (clauses_query (clauses (Some group_places) having) is_distinct wanted)
  grouped-clauses having good_having whole =
      let k : ClausesMeant = clauses (Some group_places) having in
      let here : Surroundings = in_clause (with_groups (Some group_places)) outer true in
      let in_where : List Break = optional_breaks condition k.where_meant in
      let in_groups : List Break = flat_map (group_break own) groups in
      let in_having : List Break = optional_breaks having k.having_meant in
      let in_list : List Break = items_breaks k.list in
      let first = front-none ((in_where ++ in_groups) ++ in_having) in_list whole in
      let second = front-none (in_where ++ in_groups) in_having first in
      grouped-core outer rows own from.query core k.where_meant group_places k.having_meant (own_list (Some group_places) having) is_distinct
      (formed-optional (in_clause own outer false) condition good_condition (front-none in_where in_groups second))
      (groups-in own (kinds_of from.query) groups core.holds)
      (formed-optional here having good_having (back-none (in_where ++ in_groups) in_having first))
      (good-list here k.list (settle_known (list_columns k) wanted) (before_list k)
      (items-good has_from (with_groups (Some group_places)) outer here refl items good)
      (back-none ((in_where ++ in_groups) ++ in_having) in_list whole))

  plain-clauses : (having : Option Part) → is_some having ≡ false → list_any (λ (item : SelectPart). item.aggregating) items ≡ false
      → clause_breaks own condition groups having (clauses None having) ≡ [] → WellFormed rows (clauses_query (clauses None having) is_distinct wanted)
  plain-clauses (Some part) none alone whole = absurd (true≢false none)
  plain-clauses None none alone whole =
      let k : ClausesMeant = clauses None None in
      let here : Surroundings = in_clause own outer true in
      let in_where : List Break = optional_breaks condition k.where_meant in
      let in_groups : List Break = flat_map (group_break own) groups in
      let in_list : List Break = items_breaks k.list in
      let first = front-none ((in_where ++ in_groups) ++ []) in_list whole in
      let second = front-none (in_where ++ in_groups) [] first in
      plain-core outer rows own from.query core k.where_meant (own_list None None) is_distinct
      (formed-optional (in_clause own outer false) condition good_condition (front-none in_where in_groups second))
      (good-list here k.list (settle_known (list_columns k) wanted) (before_list k) (items-good has_from own outer here refl items good)
      (back-none ((in_where ++ in_groups) ++ []) in_list whole))
      (plain-list k.list (settle_known (list_columns k) wanted) (before_list k) (items-plain has_from own here items good alone))

  ungrouped-parts : (refs : List ColRef) (having : Option Part) → is_grouped refs having items ≡ false
      → (is_some having ≡ false) × (list_any (λ (item : SelectPart). item.aggregating) items ≡ false)
  ungrouped-parts [] having e =
      let more = list_any (λ (item : SelectPart). item.aggregating) items in (left-false (is_some having) more e, right-false (is_some having) more e)
  ungrouped-parts (ref ∷ refs) having e = absurd (true≢false e)

  pub formed-clauses : (having : Option Part) → GoodOptional having
      → clause_breaks own condition groups having (clauses (group_scope own groups having items).groups having) ≡ []
      → WellFormed rows (clauses_query (clauses (group_scope own groups having items).groups having) is_distinct wanted)
  formed-clauses having good_having = chosen (is_grouped groups having items) refl where
    chosen : (b : Bool) → is_grouped groups having items ≡ b
        → clause_breaks own condition groups having (clauses (cond b (Some group_places) None) having) ≡ []
        → WellFormed rows (clauses_query (clauses (cond b (Some group_places) None) having) is_distinct wanted)
    chosen true e = grouped-clauses having good_having
    chosen false e = let parts = ungrouped-parts groups having e in plain-clauses having parts.0 parts.1
