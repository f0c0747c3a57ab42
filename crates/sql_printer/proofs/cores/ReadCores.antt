-- A SELECT without groups over a FROM that is read.
use Rattle.std.proofs.Common.{◌≡◌, ℕ, Bool, true, false, cond, not, List, [], ◌++◌, filter_map, Option, Some, None, option_map, refl, sym, ap, subst, ◌∙◌, true≢false}
use Rattle.std.specs.Option.{option_map_or}
use Rattle.perm_values.specs.declared.kind.Kind.{Kind}
use Rattle.perm_values.specs.declared.kind.Kind.TheVariants.{Boolean}
use Rattle.bag_algebra.specs.declared.expr.Expr.{Expr}
use Rattle.bag_algebra.specs.declared.expr.Item.{Item}
use Rattle.bag_algebra.specs.declared.query.Query.{Query}
use Rattle.bag_algebra.specs.declared.query.Query.TheVariants.{Filter, Project}
use Rattle.bag_algebra.specs.declared.query.Sublink.{Sublink}
use Rattle.name_meaning.specs.Cores.{ClausesMeant, clause_breaks, before_list, core_clauses, core_meant, core_over, core_seen, core_unlooked, distinct_if, filtered, group_place, is_grouped, list_columns, settle_known, word_breaks}
use Rattle.name_meaning.specs.Froms.{FromMeant, in_clause, optional_breaks, optional_meant}
use Rattle.name_meaning.specs.Items.{SelectPart, made_items, named_from}
use Rattle.name_meaning.specs.Meanings.{Around, Meant, Part, Surroundings, broken_if, is_whole, unites}
use Rattle.name_meaning.specs.Scopes.{ScopeItem, scope_of}
use Rattle.name_meaning.specs.Sublinks.{nothing_before}
use Rattle.name_meaning.specs.declared.answer.Break.{Break}
use Rattle.name_meaning.specs.declared.scope.Scope.{Scope}
use Rattle.name_meaning.specs.declared.rule.Rule.TheVariants as rule
use Rattle.sql_printer.specs.expressions.Reading.{IsRead}
use Rattle.sql_printer.proofs.expressions.ReadParts.{read-seen}
use Rattle.sql_printer.specs.cores.Queries.{QueryRead}
use Rattle.sql_printer.proofs.cores.ReadLists.{ListRead, made_of, titles-named}

-- ---- what is read

-- a FROM breaks nothing, has these items and is this query
pub record FromRead (m : FromMeant) (items : List ScopeItem) (q : Query) : Type 0 where
  pub breaks : m.breaks ≡ []
  pub items_are : m.items ≡ Some items
  pub query_is : m.query ≡ q

-- a condition, or none
pub record Condition : Type 0 where
  pub expr : Expr
  pub subs : List Sublink

pub record TestRead (m : Meant) (test : Condition) : Type 0 where
  pub made : ℕ → Expr
  pub read : IsRead m Boolean made test.subs
  pub first : made 0 ≡ test.expr

abbrev pub WhereRead : Surroundings → Option Part → Option Condition → Type 0
WhereRead here None None = Unit {0}
WhereRead here None (Some test) = ⊥
WhereRead here (Some part) None = ⊥
WhereRead here (Some part) (Some test) = TestRead (part.means here) test

abbrev pub tested : Option Condition → Query → Query
tested None q = q
tested (Some test) q = Filter q test.expr test.subs

-- ---- conditions

where-breaks : (here : Surroundings) (part : Option Part) (test : Option Condition) → WhereRead here part test → optional_breaks part (optional_meant here part) ≡ []
where-breaks here None None r = refl
where-breaks here None (Some test) r = absurd r
where-breaks here (Some part) None r = absurd r
where-breaks here (Some part) (Some test) r =
    (λ i. r.read.breaks i ++ broken_if (not (unites (Some Boolean) (read-seen (part.means here) Boolean r.made test.subs r.read i))) rule.UnfitKind part.at)

where-filters : (here : Surroundings) (part : Option Part) (test : Option Condition) (q : Query) → WhereRead here part test
    → filtered q (optional_meant here part) ≡ tested test q
where-filters here None None q r = refl
where-filters here None (Some test) q r = absurd r
where-filters here (Some part) None q r = absurd r
where-filters here (Some part) (Some test) q r =
    ap (λ b. Filter q b.expr b.subs) (r.read.make Boolean nothing_before) ∙ ap (λ e. Filter q e test.subs) r.first

-- ---- the core

-- without the word PROVENANCE it is the same whether it may be asked for
pub no_word : (may : Bool) (nothing : List Break) → cond may nothing nothing ≡ nothing
no_word true nothing = refl
no_word false nothing = refl

module _ (around : Around) (input : FromMeant) (has_from is_distinct : Bool) (parts : List SelectPart) (condition : Option Part) (items : List ScopeItem) (q : Query)
    (from : FromRead input items q) (test : Option Condition) (names : List (List ℕ)) (kinds : List Kind) (made : ℕ → List Item) (subs : List Sublink)
    (where_read : WhereRead (in_clause (scope_of items) around.outer false) condition test)
    (list : ListRead has_from (scope_of items) (in_clause (scope_of items) around.outer true) parts names kinds made subs) where
  abbrev clauses : ClausesMeant
  clauses = core_clauses (in_clause (scope_of items) around.outer false) (in_clause (scope_of items) around.outer true) (scope_of items) has_from input condition None parts

  ungrouped_is : (b : Bool) → b ≡ false → record (scope_of items) { groups = cond b (Some (filter_map (group_place (scope_of items)) [])) None } ≡ scope_of items
  ungrouped_is true e = absurd (true≢false e)
  ungrouped_is false e = refl

  core-is : core_seen around None input has_from is_distinct parts condition [] None
      ≡ core_meant (word_breaks around None) (clause_breaks (scope_of items) condition [] None clauses) clauses is_distinct
  core-is =
      ap (λ b. cond b (core_over around.outer (word_breaks around None) input has_from is_distinct parts condition [] None (option_map_or (λ known. known) input.items []))
      (core_unlooked (word_breaks around None) input)) (ap is_whole from.breaks)
      ∙ ap (λ found. core_over around.outer (word_breaks around None) input has_from is_distinct parts condition [] None (option_map_or (λ known. known) found [])) from.items_are
      ∙ ap (λ (grouped : Scope). core_meant (word_breaks around None)
      (clause_breaks (scope_of items) condition [] None
      (core_clauses (in_clause (scope_of items) around.outer false) (in_clause grouped around.outer true) grouped has_from input condition None parts))
      (core_clauses (in_clause (scope_of items) around.outer false) (in_clause grouped around.outer true) grouped has_from input condition None parts) is_distinct)
      (ungrouped_is (is_grouped [] None parts) list.plain)

  pub core-read : QueryRead (core_seen around None input has_from is_distinct parts condition [] None) names kinds (distinct_if is_distinct (Project (tested test q) (made 0) subs))
  core-read = subst (λ m. QueryRead m names kinds (distinct_if is_distinct (Project (tested test q) (made 0) subs))) (sym core-is) (record {
    breaks = λ i. no_word around.may_ask [] i ++ (where-breaks (in_clause (scope_of items) around.outer false) condition test where_read i ++ [] ++ [] ++ list.breaks i);
    columns = ap (option_map (named_from 1)) list.known ∙ ap Some (titles-named 1 names kinds);
    places = refl;
    make = λ wanted.
        (λ i. distinct_if is_distinct (Project (filtered (from.query_is i) (optional_meant (in_clause (scope_of items) around.outer false) condition))
        (list_made wanted i).items (list_made wanted i).subs))
        ∙ ap (λ input. distinct_if is_distinct (Project input (made 0) subs)) (where-filters (in_clause (scope_of items) around.outer false) condition test q where_read);
  })
    where
      list_made : (wanted : List Kind) → made_items clauses.list (settle_known (list_columns clauses) wanted) (before_list clauses) ≡ made_of (made 0) subs
      list_made wanted = list.make (settle_known (list_columns clauses) wanted) (before_list clauses)
