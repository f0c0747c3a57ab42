-- What the code finds of a core, clause by clause, is what the core means.
use Rattle.std.specs.Prelude.{◌≡◌, ℕ, Bool, true, false, cond, List, [], ◌∷◌, ◌++◌, flat_map, map, Option, Some, None, option_map, Ok, Err}
use Rattle.std.specs.Option.{option_map_or}
use Rattle.std.proofs.Common.{refl, ap, sym, ◌∙◌}
use Rattle.bag_algebra.specs.declared.query.Aggr.{Aggr}
use Rattle.bag_algebra.specs.declared.query.Query.{Query}
use Rattle.bag_algebra.specs.declared.query.Query.TheVariants.{Project}
use Rattle.bag_algebra.specs.declared.query.Sublink.{Sublink}
use Rattle.perm_values.specs.declared.kind.Kind.{Kind}
use Rattle.sql_tree.specs.declared.name.ColRef.{ColRef}
use Rattle.name_meaning.specs.Cores.{ClausesMeant, aggregated_input, before_list, clauses_query, core_clauses, core_over, core_seen, core_unlooked, filtered, group_break, group_scope, list_columns, optional_built, settle_known, word_breaks}
use Rattle.name_meaning.specs.Froms.{FromMeant, in_clause, optional_breaks, optional_meant}
use Rattle.name_meaning.specs.Items.{Made, SelectPart, items_breaks, made_items, named_from}
use Rattle.name_meaning.specs.Meanings.{Around, Meant, Part, QueryMeant, is_whole}
use Rattle.name_meaning.specs.Scopes.{ScopeItem, scope_of}
use Rattle.name_meaning.specs.declared.answer.Break.{Break}
use Rattle.name_meaning.specs.declared.scope.Scope.{Scope}
use Rattle.name_meaning.specs.laws.Facts.{Facts, both_facts, facts_of, sub_facts}
use Rattle.name_meaning.proofs.FactsOf.{both_facts-assoc, both_facts-none, facts-Filter, facts-Project, facts-aggregated, facts-distinct_if}
use Rattle.name_seen_parts.specs.Seen.{first_or}
use Rattle.name_seen_parts.specs.declared.clauses.column.ShownColumn.{ShownColumn}
use Rattle.name_seen_parts.proofs.Firsts.{all-none, both-none, first-behind, first-behind_two, first-stays, first-stays_first, first-stays_second, none-broken}
use Rattle.name_seen_cores.specs.from.Added.{facts_in}
use Rattle.name_seen_cores.specs.from.Queried.{ColumnsWhole}
use Rattle.name_seen_cores.specs.declared.from.facts.Facts.{Facts as Gathered}
use Rattle.name_seen_cores.specs.Behind.{ConditionWhole}
use Rattle.name_seen_cores.specs.Listed.{ListWhole, seen_at}

-- ---- facts

abbrev condition_facts : Option Meant → Facts
condition_facts m = sub_facts (optional_built m).subs

facts-filtered : (input : Query) (m : Option Meant) → facts_of (filtered input m) ≡ both_facts (facts_of input) (condition_facts m)
facts-filtered input None = sym (both_facts-none (facts_of input))
facts-filtered input (Some m) = facts-Filter input (optional_built (Some m)).expr (optional_built (Some m)).subs

-- FROM's, then those of WHERE, of HAVING and of the list
abbrev clauses_facts : ClausesMeant → List Sublink → Facts
clauses_facts k subs =
    both_facts (both_facts (both_facts (facts_of k.input.query) (condition_facts k.where_meant)) (condition_facts k.having_meant)) (sub_facts subs)

facts-clauses : (k : ClausesMeant) (is_distinct : Bool) (wanted : List Kind)
    → facts_of (clauses_query k is_distinct wanted) ≡ clauses_facts k (made_items k.list (settle_known (list_columns k) wanted) (before_list k)).subs
facts-clauses k is_distinct wanted =
    let list : Made = made_items k.list (settle_known (list_columns k) wanted) (before_list k) in
    let aggregates : List Aggr = (optional_built k.having_meant).aggregates ++ list.aggregates in
    let rows : Query = aggregated_input (filtered k.input.query k.where_meant) k.groups aggregates in
    facts-distinct_if is_distinct (Project (filtered rows k.having_meant) list.items list.subs)
    ∙ facts-Project (filtered rows k.having_meant) list.items list.subs
    ∙ ap (λ (facts : Facts). both_facts facts (sub_facts list.subs))
    (facts-filtered rows k.having_meant ∙ ap (λ (facts : Facts). both_facts facts (condition_facts k.having_meant))
    (facts-aggregated (filtered k.input.query k.where_meant) k.groups aggregates ∙ facts-filtered k.input.query k.where_meant))

adds-clauses : (k : ClausesMeant) (is_distinct : Bool) (wanted : List Kind) (before from where_ having new : Facts)
    → from ≡ both_facts before (facts_of k.input.query)
    → where_ ≡ both_facts from (condition_facts k.where_meant)
    → having ≡ both_facts where_ (condition_facts k.having_meant)
    → new ≡ both_facts having (sub_facts (made_items k.list (settle_known (list_columns k) wanted) (before_list k)).subs)
    → new ≡ both_facts before (facts_of (clauses_query k is_distinct wanted))
adds-clauses k is_distinct wanted before from where_ having new first second third fourth =
    let subs : List Sublink = (made_items k.list (settle_known (list_columns k) wanted) (before_list k)).subs in
    let front : Facts = both_facts (facts_of k.input.query) (condition_facts k.where_meant) in
    let till_where : where_ ≡ both_facts before front = added before from where_ (facts_of k.input.query) (condition_facts k.where_meant) first second in
    let till_having : having ≡ both_facts before (both_facts front (condition_facts k.having_meant)) =
    added before where_ having front (condition_facts k.having_meant) till_where third in
    added before having new (both_facts front (condition_facts k.having_meant)) (sub_facts subs) till_having fourth
    ∙ ap (both_facts before) (sym (facts-clauses k is_distinct wanted)) where
      added : (old middle new a b : Facts) → middle ≡ both_facts old a → new ≡ both_facts middle b → new ≡ both_facts old (both_facts a b)
      added old middle new a b first second = second ∙ ap (λ (facts : Facts). both_facts facts b) first ∙ both_facts-assoc old a b

-- ---- the word PROVENANCE

pub word-fine : (around : Around) (word : Option ℕ) → first_or (word_breaks around word) (tt {0}) ≡ Ok (tt {0}) → word_breaks around word ≡ []
word-fine around word fine = none-broken (word_breaks around word) tt tt fine

-- ---- FROM

abbrev over_known : Around → FromMeant → Bool → Bool → List SelectPart → Option Part → List ColRef → Option Part → List Break → Option (List ScopeItem) → QueryMeant
over_known around input has_from is_distinct items condition groups having words known =
    core_over around.outer words input has_from is_distinct items condition groups having (option_map_or (λ known. known) known [])

pub looked : (around : Around) (word : Option ℕ) (input : FromMeant) (has_from is_distinct : Bool) (items : List SelectPart) (condition : Option Part) (groups : List ColRef)
    (having : Option Part) (known : List ScopeItem) → input.breaks ≡ [] → input.items ≡ Some known → word_breaks around word ≡ []
    → core_seen around word input has_from is_distinct items condition groups having
    ≡ core_over around.outer [] input has_from is_distinct items condition groups having known
looked around word input has_from is_distinct items condition groups having known whole is fine =
    let over = over_known around input has_from is_distinct items condition groups having in
    ap (λ (breaks : List Break). cond (is_whole breaks) (over (word_breaks around word) input.items) (core_unlooked (word_breaks around word) input)) whole
    ∙ (λ at. over (fine at) (is at))

not-whole : (breaks : List Break) (b : Break) → first_or breaks (tt {0}) ≡ Err b → is_whole breaks ≡ false
not-whole [] b broken = absurd (cc broken)
not-whole (first ∷ more) b broken = refl

pub unlooked-breaks : (around : Around) (word : Option ℕ) (input : FromMeant) (has_from is_distinct : Bool) (items : List SelectPart) (condition : Option Part) (groups : List ColRef)
    (having : Option Part) (b : Break) → word_breaks around word ≡ [] → first_or input.breaks (tt {0}) ≡ Err b
    → first_or (core_seen around word input has_from is_distinct items condition groups having).breaks (tt {0}) ≡ Err b
unlooked-breaks around word input has_from is_distinct items condition groups having b fine broken =
    let over = over_known around input has_from is_distinct items condition groups having in
    ap (λ (whole : Bool). first_or (cond whole (over (word_breaks around word) input.items) (core_unlooked (word_breaks around word) input)).breaks tt)
    (not-whole input.breaks b broken)
    ∙ first-behind (word_breaks around word) input.breaks tt fine ∙ broken

pub word-breaks : (around : Around) (word : Option ℕ) (input : FromMeant) (has_from is_distinct : Bool) (items : List SelectPart) (condition : Option Part) (groups : List ColRef)
    (having : Option Part) (b : Break) → first_or (word_breaks around word) (tt {0}) ≡ Err b
    → first_or (core_seen around word input has_from is_distinct items condition groups having).breaks (tt {0}) ≡ Err b
word-breaks around word input has_from is_distinct items condition groups having b broken = by-whole (is_whole input.breaks) where
  by-whole : (whole : Bool)
      → first_or (cond whole (over_known around input has_from is_distinct items condition groups having (word_breaks around word) input.items)
      (core_unlooked (word_breaks around word) input)).breaks (tt {0}) ≡ Err b
  by-whole true = first-stays (word_breaks around word) _ (tt {0}) (tt {0}) b broken
  by-whole false = first-stays (word_breaks around word) input.breaks (tt {0}) (tt {0}) b broken

-- ---- the first break of four clauses

pub where-breaks : (first second third fourth : List Break) (b : Break) → first_or first (tt {0}) ≡ Err b → first_or (first ++ second ++ third ++ fourth) (tt {0}) ≡ Err b
where-breaks first second third fourth b broken =
    first-stays (first ++ second ++ third) fourth (tt {0}) (tt {0}) b (first-stays_first first second third (tt {0}) (tt {0}) b broken)

pub groups-break : (first second third fourth : List Break) (b : Break) → first ≡ [] → first_or second (tt {0}) ≡ Err b
    → first_or (first ++ second ++ third ++ fourth) (tt {0}) ≡ Err b
groups-break first second third fourth b none broken =
    first-stays (first ++ second ++ third) fourth (tt {0}) (tt {0}) b (first-stays_second first second third (tt {0}) (tt {0}) b none broken)

pub having-breaks : (first second third fourth : List Break) (b : Break) → first ≡ [] → second ≡ [] → first_or third (tt {0}) ≡ Err b
    → first_or (first ++ second ++ third ++ fourth) (tt {0}) ≡ Err b
having-breaks first second third fourth b none nothing broken =
    first-stays (first ++ second ++ third) fourth (tt {0}) (tt {0}) b (first-behind_two first second third tt none nothing ∙ broken)

pub list-breaks : (first second third fourth : List Break) (b : Break) → first ≡ [] → second ≡ [] → third ≡ [] → first_or fourth (tt {0}) ≡ Err b
    → first_or (first ++ second ++ third ++ fourth) (tt {0}) ≡ Err b
list-breaks first second third fourth b none nothing empty broken =
    first-behind (first ++ second ++ third) fourth tt (all-none first second third none nothing empty) ∙ broken

-- ---- the whole

pub core-whole : (around : Around) (input : FromMeant) (has_from is_distinct : Bool) (parts : List SelectPart) (condition : Option Part) (groups : List ColRef)
    (having : Option Part) (items : List ScopeItem) (before from behind_where behind_having new : Gathered) (columns : List ShownColumn)
    → facts_in from ≡ both_facts (facts_in before) (facts_of input.query)
    → ConditionWhole condition (optional_meant (in_clause (scope_of items) around.outer false) condition) from behind_where
    → flat_map (group_break (scope_of items)) groups ≡ []
    → ConditionWhole having (optional_meant (in_clause (group_scope (scope_of items) groups having parts) around.outer true) having) behind_where behind_having
    → ListWhole (map (seen_at has_from (group_scope (scope_of items) groups having parts)
    (in_clause (group_scope (scope_of items) groups having parts) around.outer true)) parts) behind_having new columns
    → ColumnsWhole (core_over around.outer [] input has_from is_distinct parts condition groups having items) before new columns
core-whole around input has_from is_distinct parts condition groups having items before from behind_where behind_having new columns first second none third list =
    let own : Scope = scope_of items in
    let grouped : Scope = group_scope own groups having parts in
    let k : ClausesMeant = core_clauses (in_clause own around.outer false) (in_clause grouped around.outer true) grouped has_from input condition having parts in
    record {
      whole = both-none (optional_breaks condition k.where_meant ++ flat_map (group_break own) groups ++ optional_breaks having k.having_meant) (items_breaks k.list)
          (all-none (optional_breaks condition k.where_meant) (flat_map (group_break own) groups) (optional_breaks having k.having_meant) second.whole none third.whole) list.whole;
      known = ap (option_map (named_from 1)) list.known ∙ ap Some (sym list.shown);
      adds = λ wanted. adds-clauses k is_distinct wanted (facts_in before) (facts_in from) (facts_in behind_where) (facts_in behind_having) (facts_in new)
          first second.adds third.adds (list.adds (settle_known (list_columns k) wanted) (before_list k));
    }
