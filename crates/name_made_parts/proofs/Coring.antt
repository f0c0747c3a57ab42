-- What a core is made of, its clauses made one after the other.
use Rattle.std.specs.Prelude.{◌≡◌, ℕ, ◌+◌, Bool, true, false, cond, List, [], ◌∷◌, ◌++◌, length, flat_map, drop, Option, Some, None, option_map}
use Rattle.std.specs.Option.{option_map_or}
use Rattle.std.proofs.Common.{refl, ap, sym, subst, ◌∙◌, arith, append_assoc}
use Rattle.bag_algebra.specs.declared.expr.Expr.{Expr}
use Rattle.bag_algebra.specs.declared.expr.Item.{Item}
use Rattle.bag_algebra.specs.declared.query.Aggr.{Aggr}
use Rattle.bag_algebra.specs.declared.query.Query.{Query}
use Rattle.bag_algebra.specs.declared.query.Query.TheVariants.{Project}
use Rattle.perm_catalog.specs.Contents.{Contents}
use Rattle.perm_values.specs.declared.kind.Kind.{Kind}
use Rattle.perm_values.specs.declared.kind.Kind.TheVariants as kind
use Rattle.perm_values.proofs.Lists.{front-none, back-none}
use Rattle.sql_tree.specs.declared.expression.ExprTree.{ExprTree}
use Rattle.sql_tree.specs.declared.name.Name.{Name}
use Rattle.sql_tree.specs.declared.query.SelectItem.{SelectItem}
use Rattle.sql_tree.specs.declared.query.SelectItem.TheVariants as i
use Rattle.sql_tree.specs.declared.query.Core.{Core, out-Core}
use Rattle.name_meaning.specs.Cores.{BodyPart, aggregated_input, core_seen, core_unlooked, distinct_if, filtered, group_break, group_scope, has_some, optional_built, settle_known, word_breaks}
use Rattle.name_meaning.specs.Froms.{from_all, in_clause, optional_breaks, optional_meant}
use Rattle.name_meaning.specs.Items.{Made, SelectMeant, SelectPart, all_known, items_breaks, made_items, named_from, star_meant, table_star_meant, title, value_meant}
use Rattle.name_meaning.specs.Meanings.{Around, Meant, Part, QueryMeant, Surroundings, is_whole, means_at}
use Rattle.name_meaning.specs.Operands.{behind}
use Rattle.name_meaning.specs.Scopes.{ScopeItem, scope_of}
use Rattle.name_meaning.specs.Sublinks.{nothing_before}
use Rattle.name_meaning.specs.Trees.{core_of, item_of, part_of}
use Rattle.name_meaning.specs.declared.answer.Break.{Break}
use Rattle.name_meaning.specs.declared.scope.Scope.{Scope}
use Rattle.name_meaning.proofs.Equations.{token, selectitem-star, selectitem-tablestar, selectitem-value}
use Rattle.name_meaning.specs.nodes.Cored.{clauses_over, condition_over}
use Rattle.name_meaning.specs.nodes.Listed.{MakesItems, widths}
use Rattle.name_meaning.specs.nodes.Makes.{Makes, MakesQuery, nothing_found}
use Rattle.name_meaning.specs.declared.nodes.cores.Clauses.{Clauses}
use Rattle.name_meaning.specs.declared.nodes.within.Within.{Within}
use Rattle.name_meaning.proofs.ItemLists.{more-listed}
use Rattle.name_made_parts.specs.Cored.{Keeps, MakesClauses, condition_of, condition_part, core_over_items, having_part, items_meant, kept_of, select_parts, source_parts, sources_meant, own_breaks}
use Rattle.name_made_parts.specs.Sources.{IsScope}
use Rattle.name_made_parts.proofs.Settling.{list-settles, settled-list}
use Rattle.name_meaning.proofs.Opened.{core-is}

-- ---- conditions

pub none-kept : (here : Surroundings) → Keeps (optional_meant here None) (record { condition = None; aggregates = [] })
none-kept here whole = record { condition = refl; aggregates = refl }

-- a condition that is made is kept with what was found in it
pub some-kept : (may_link : Bool) (m : Meant) (e : Expr) (found : Within) → Makes may_link m kind.Boolean e nothing_found found → Keeps (Some m) (kept_of e found)
some-kept may_link m e found makes whole =
    let built = makes.makes whole in
    record {
      condition = (λ i. Some (record { expr = built.expr i; subs = (built.found i).subs }));
      aggregates = ap (λ (w : Within). w.aggregates) built.found;
    }

pub own-whole : (here : Surroundings) (part : Option Part) → optional_breaks part (optional_meant here part) ≡ [] → own_breaks (optional_meant here part) ≡ []
own-whole here None whole = refl
own-whole here (Some part) whole = front-none _ _ whole

over-is : (input : Query) (m : Option Meant) → condition_over input (option_map condition_of m) ≡ filtered input m
over-is input None = refl
over-is input (Some m) = refl

-- ---- the list

apart : (ms more : List SelectMeant) → items_breaks ms ++ items_breaks more ≡ items_breaks (ms ++ more)
apart [] more = refl
apart (m ∷ ms) more = append_assoc m.breaks (items_breaks ms) (items_breaks more) ∙ ap (λ (rest : List Break). m.breaks ++ rest) (apart ms more)

-- one more item, made behind as many columns as there are
pub next-listed : (may_link : Bool) (ms more : List SelectMeant) (wanted : List Kind) (q r : List Item) (a b c : Within)
    → MakesItems may_link ms wanted [] q a b → MakesItems may_link more (drop (length q) wanted) q r b c → MakesItems may_link (ms ++ more) wanted [] r a c
next-listed may_link ms more wanted q r a b c first second =
    record {
      makes = λ whole. (all whole).makes whole;
      wide = λ whole. (all whole).wide whole;
      unlinked = λ none. second.unlinked none ∙ first.unlinked none;
    } where
      all : items_breaks (ms ++ more) ≡ [] → MakesItems may_link (ms ++ more) wanted [] r a c
      all whole =
          let size = first.wide (front-none (items_breaks ms) (items_breaks more) (apart ms more ∙ whole)) in
          let n : length q ≡ widths ms = omega (arith, size) in
          more-listed may_link ms more wanted [] q r a b c first (subst (λ (n : ℕ). MakesItems may_link more (drop n wanted) q r b c) n second)

-- ---- the clauses

abbrev listed_in : List SelectMeant → List Kind → List Aggr → Made
listed_in list wanted aggregates = made_items list wanted (record { subs = 0; aggregates = length aggregates })

start-is : (aggregates : List Aggr) → behind nothing_before [] aggregates ≡ record { subs = 0; aggregates = length aggregates }
start-is aggregates = let same : 0 + length aggregates ≡ length aggregates = omega arith in ap (λ (n : ℕ). record { subs = 0; aggregates = n }) same

over-grouped : (c : Contents) (around : Around) (core : Core) (breaks : List Break) (items : List ScopeItem) (wanted : List Kind) (clauses : Clauses) (input query : Query)
    → MakesClauses c around core (group_scope (scope_of items) (out-Core core).groups (having_part c core) (select_parts c core)) wanted clauses
    → input ≡ (sources_meant c around core).query → query ≡ clauses_over input clauses
    → MakesQuery (core_over_items c around core breaks items) wanted query
over-grouped c around core breaks items wanted clauses input query makes from is =
    record {
      makes = λ whole.
          let grouped = group_scope (scope_of items) (out-Core core).groups (having_part c core) (select_parts c core) in
          let here = in_clause (scope_of items) around.outer false in
          let there = in_clause grouped around.outer true in
          let wm = optional_meant here (condition_part c core) in
          let hm = optional_meant there (having_part c core) in
          let has_from = has_some (source_parts c core) in
          let list = items_meant has_from grouped there (select_parts c core) in
          let first = optional_breaks (condition_part c core) wm in
          let second = flat_map (group_break (scope_of items)) (out-Core core).groups in
          let third = optional_breaks (having_part c core) hm in
          let all : first ++ second ++ third ++ items_breaks list ≡ [] = back-none breaks (first ++ second ++ third ++ items_breaks list) whole in
          let front : first ++ second ++ third ≡ [] = front-none (first ++ second ++ third) (items_breaks list) all in
          let of_list : items_breaks list ≡ [] = back-none (first ++ second ++ third) (items_breaks list) all in
          let of_where = own-whole here (condition_part c core) (front-none first second (front-none (first ++ second) third front)) in
          let of_having = own-whole there (having_part c core) (back-none (first ++ second) third front) in
          let aggregates = (optional_built hm).aggregates in
          let listed = (makes.selected.listed of_having has_from).makes of_list in
          let made = made_items list (settle_known (option_map (named_from 1) (all_known list)) wanted) (behind nothing_before [] aggregates) in
          let same : listed_in list wanted aggregates ≡ made =
          sym (settled-list list wanted (behind nothing_before [] aggregates) (list-settles c (out-Core core).items has_from grouped there of_list)
          ∙ ap (made_items list wanted) (start-is aggregates)) in
          let of_items : clauses.list.items ≡ made.items = listed.items ∙ ap (λ (m : Made). m.items) same in
          let of_subs : clauses.list.subs ≡ made.subs = ap (λ (w : Within). w.subs) listed.found ∙ ap (λ (m : Made). m.subs) same in
          let of_aggregates : clauses.list.aggregates ≡ aggregates ++ made.aggregates =
          ap (λ (w : Within). w.aggregates) listed.found ∙ ap (λ (m : Made). aggregates ++ m.aggregates) same in
          let of_condition = makes.kept of_where in
          let of_kept = makes.selected.kept of_having in
          is
          ∙ (λ i. distinct_if (makes.distinct i) (Project (condition_over (aggregated_input (condition_over (from i) (of_condition i)) (makes.groups i) (of_aggregates i)) (of_kept i)) (of_items i) (of_subs i)))
          ∙ ap (λ (q : Query). distinct_if (out-Core core).distinct (Project (condition_over (aggregated_input q grouped.groups (aggregates ++ made.aggregates)) (option_map condition_of hm)) made.items made.subs))
          (over-is (sources_meant c around core).query wm)
          ∙ ap (λ (q : Query). distinct_if (out-Core core).distinct (Project q made.items made.subs))
          (over-is (aggregated_input (filtered (sources_meant c around core).query wm) grouped.groups (aggregates ++ made.aggregates)) hm);
    }

-- the clauses of a core make it
pub clauses-made : (c : Contents) (around : Around) (core : Core) (breaks : List Break) (items : List ScopeItem) (scope : Scope) (wanted : List Kind) (clauses : Clauses) (input query : Query)
    → scope ≡ group_scope (scope_of items) (out-Core core).groups (having_part c core) (select_parts c core)
    → MakesClauses c around core scope wanted clauses → input ≡ (sources_meant c around core).query → query ≡ clauses_over input clauses
    → MakesQuery (core_over_items c around core breaks items) wanted query
clauses-made c around core breaks items scope wanted clauses input query scoped makes from is =
    over-grouped c around core breaks items wanted clauses input query (subst (λ (s : Scope). MakesClauses c around core s wanted clauses) scoped makes) from is

-- ---- the core

opened : (c : Contents) (around : Around) (core : Core) → (core_of c core).means around
    ≡ core_seen around (out-Core core).provenance (from_all around.outer (source_parts c core))
    (has_some (source_parts c core)) (out-Core core).distinct (select_parts c core) (condition_part c core) (out-Core core).groups (having_part c core)
opened c around core = ap (λ (body : BodyPart). body.means around) (core-is c core)

chosen : (whole : Bool) (a b : QueryMeant) (wanted : List Kind) (query : Query) → whole ≡ true → MakesQuery a wanted query → MakesQuery (cond whole a b) wanted query
chosen true a b wanted query is makes = makes
chosen false a b wanted query is makes = absurd (cc is)

pub core-some : (c : Contents) (around : Around) (core : Core) (own : Scope) (wanted : List Kind) (query : Query) → IsScope (sources_meant c around core) own
    → ((breaks : List Break) (items : List ScopeItem) → own ≡ scope_of items → MakesQuery (core_over_items c around core breaks items) wanted query)
    → MakesQuery ((core_of c core).means around) wanted query
core-some c around core own wanted query s makes =
    let word = (out-Core core).provenance in
    let input = from_all around.outer (source_parts c core) in
    subst (λ (m : QueryMeant). MakesQuery m wanted query) (sym (opened c around core))
    (chosen (is_whole input.breaks) _ (core_unlooked (word_breaks around word) input) wanted query (ap is_whole s.whole)
    (subst (λ (items : Option (List ScopeItem)). MakesQuery (core_over_items c around core (word_breaks around word) (option_map_or (λ known. known) items [])) wanted query)
    (sym s.known) (makes (word_breaks around word) s.items s.scope_is)))

unlooked : (words breaks : List Break) (a b : QueryMeant) (wanted : List Kind) (query : Query) → (breaks ≡ [] → ⊥) → b.breaks ≡ words ++ breaks
    → MakesQuery (cond (is_whole breaks) a b) wanted query
unlooked words [] a b wanted query broken is = absurd (broken refl)
unlooked words (first ∷ more) a b wanted query broken is =
    record { makes = λ whole. absurd (broken (back-none words (first ∷ more) (sym is ∙ whole))) }

-- where FROM breaks, nothing is asked
pub core-none : (c : Contents) (around : Around) (core : Core) (wanted : List Kind) (query : Query) → ((sources_meant c around core).breaks ≡ [] → ⊥)
    → MakesQuery ((core_of c core).means around) wanted query
core-none c around core wanted query broken =
    let word = (out-Core core).provenance in
    let input = from_all around.outer (source_parts c core) in
    subst (λ (m : QueryMeant). MakesQuery m wanted query) (sym (opened c around core))
    (unlooked (word_breaks around word) input.breaks _ (core_unlooked (word_breaks around word) input) wanted query broken refl)

-- ---- items

pub item-so : (c : Contents) (item : SelectItem) (may_link has_from : Bool) (scope : Scope) (here : Surroundings) (m : SelectMeant) (wanted : List Kind) (p q : List Item) (old new : Within)
    → (item_of c item).means has_from scope here ≡ m → MakesItems may_link (m ∷ []) wanted p q old new
    → MakesItems may_link (items_meant has_from scope here (item_of c item ∷ [])) wanted p q old new
item-so c item may_link has_from scope here m wanted p q old new is makes =
    subst (λ (m : SelectMeant). MakesItems may_link (m ∷ []) wanted p q old new) (sym is) makes

pub star-is : (c : Contents) (item : SelectItem) (at : ℕ) (has_from : Bool) (scope : Scope) (here : Surroundings) → item ≡ i.Star at
    → (item_of c item).means has_from scope here ≡ star_meant has_from scope at
unfolding token
star-is c item at has_from scope here is = ap (λ (part : SelectPart). part.means has_from scope here) (ap (item_of c) is ∙ selectitem-star c at)

pub table-star-is : (c : Contents) (item : SelectItem) (table : Name) (has_from : Bool) (scope : Scope) (here : Surroundings) → item ≡ i.TableStar table
    → (item_of c item).means has_from scope here ≡ table_star_meant scope table
unfolding token
table-star-is c item table has_from scope here is = ap (λ (part : SelectPart). part.means has_from scope here) (ap (item_of c) is ∙ selectitem-tablestar c table)

pub value-is : (c : Contents) (item : SelectItem) (expr : ExprTree) (name : Option Name) (has_from : Bool) (scope : Scope) (here : Surroundings) → item ≡ i.Value expr name
    → (item_of c item).means has_from scope here ≡ value_meant (title name (part_of c expr)) (means_at (part_of c expr) here)
unfolding token means_at
value-is c item expr name has_from scope here is = ap (λ (part : SelectPart). part.means has_from scope here) (ap (item_of c) is ∙ selectitem-value c expr name)
