-- A SELECT with groups over a FROM that is read.
use Rattle.std.proofs.Common.{◌≡◌, ℕ, Bool, true, false, cond, List, [], ◌∷◌, ◌++◌, flat_map, filter_map, map, Some, None, option_map, refl, sym, ap, subst, ◌∙◌}
use Rattle.std.specs.Option.{option_map_or}
use Rattle.perm_values.specs.declared.kind.Kind.{Kind}
use Rattle.bag_algebra.specs.declared.expr.Item.{Item}
use Rattle.bag_algebra.specs.declared.query.Aggr.{Aggr}
use Rattle.bag_algebra.specs.declared.query.Query.{Query}
use Rattle.bag_algebra.specs.declared.query.Query.TheVariants.{Aggregate, Project}
use Rattle.perm_catalog.specs.Contents.{Contents}
use Rattle.sql_tree.specs.declared.name.ColRef.{ColRef}
use Rattle.sql_tree.specs.declared.query.Core.{Core}
use Rattle.sql_tree.specs.declared.query.SelectItem.{SelectItem}
use Rattle.sql_tree.specs.declared.source.FromTree.{FromTree}
use Rattle.name_meaning.proofs.Equations.{core-record-none-none, token}
use Rattle.name_meaning.specs.Cores.{BodyPart, ClausesMeant, before_list, clause_breaks, core_clauses, core_meant, core_over, core_seen, core_unlooked, group_break, group_place, group_scope, has_some, is_grouped, list_columns, settle_known, word_breaks}
use Rattle.name_meaning.specs.Froms.{FromMeant, from_all, in_clause}
use Rattle.name_meaning.specs.Items.{SelectPart, made_items, named_from}
use Rattle.name_meaning.specs.Meanings.{Around, is_whole}
use Rattle.name_meaning.specs.Scopes.{ScopeItem, scope_of}
use Rattle.name_meaning.specs.Trees.{core_of, from_of, item_of}
use Rattle.name_meaning.specs.declared.scope.Scope.{Scope}
use Rattle.tree_texts.specs.Forms as f
use Rattle.tree_texts.specs.Forms.{ColumnForm, ExprForm, FromForm, ItemForms}
use Rattle.tree_texts.specs.Trees.{AreColumns, AreItems, AreSources, IsCore, IsItem, no_condition_tree, select_tree}
use Rattle.sql_printer.specs.cores.Queries.{QueryRead}
use Rattle.sql_printer.proofs.cores.ReadCores.{FromRead, no_word}
use Rattle.sql_printer.proofs.cores.ReadLists.{titles-named}
use Rattle.sql_printer.proofs.groups.ReadAggregates.{GroupedList, made_with}

-- ---- the parts of its tree

pub record OpenedGroups (c : Contents) (a : ExprForm) (name : List ℕ) (more : ItemForms) (origin : FromForm) (groups : List ColumnForm) (tree : Core) : Type 0 where
  pub item : SelectItem
  pub items : List SelectItem
  pub sources : List FromTree
  pub columns : List ColRef
  pub first : IsItem a name item
  pub rest : AreItems more items
  pub from : AreSources origin sources
  pub grouped : AreColumns groups columns
  pub unasked : (core_of c tree).word ≡ None
  pub means : (around : Around) → (core_of c tree).means around
      ≡ core_seen around None (from_all around.outer (map (from_of c) sources)) (has_some (map (from_of c) sources)) false (map (item_of c) (item ∷ items)) None columns None

pub opened-groups : (c : Contents) {a : ExprForm} {name : List ℕ} {more : ItemForms} {origin : FromForm} {groups : List ColumnForm} {tree : Core}
    → IsCore (f.select false a name more origin f.no_condition groups f.no_condition) tree → OpenedGroups c a name more origin groups tree
unfolding token
opened-groups c {tree = tree} (select_tree {item = item} {items = items} {sources = sources} {columns = columns} at d ds from no_condition_tree grouped no_condition_tree is) =
    let whole = ap (core_of c) is ∙ core-record-none-none c at None false (item ∷ items) sources columns in
    record {
      item = item;
      items = items;
      sources = sources;
      columns = columns;
      first = d;
      rest = ds;
      from = from;
      grouped = grouped;
      unasked = ap (λ (part : BodyPart). part.word) whole;
      means = λ around. ap (λ (part : BodyPart). part.means around) whole;
    }

-- ---- what it is read as

abbrev pub grouped_scope : List ScopeItem → List ℕ → Scope
grouped_scope items places = record (scope_of items) { groups = Some places }

module _ (around : Around) (input : FromMeant) (has_from : Bool) (parts : List SelectPart) (columns : List ColRef) (items : List ScopeItem) (q : Query)
    (from : FromRead input items q) (places : List ℕ) (whole : flat_map (group_break (scope_of items)) columns ≡ [])
    (places_are : filter_map (group_place (scope_of items)) columns ≡ places) (grouped : is_grouped columns None parts ≡ true)
    (names : List (List ℕ)) (all : List Kind) (made : ℕ → List Item) (aggregates : List Aggr)
    (list : GroupedList has_from (grouped_scope items places) (in_clause (grouped_scope items places) around.outer true) parts names all made aggregates) where
  abbrev clauses : ClausesMeant
  clauses = core_clauses (in_clause (scope_of items) around.outer false) (in_clause (grouped_scope items places) around.outer true) (grouped_scope items places) has_from input None None parts

  scope-is : group_scope (scope_of items) columns None parts ≡ grouped_scope items places
  scope-is = λ i. record (scope_of items) { groups = cond (grouped i) (Some (places_are i)) None }

  core-is : core_seen around None input has_from false parts None columns None
      ≡ core_meant (word_breaks around None) (clause_breaks (scope_of items) None columns None clauses) clauses false
  core-is =
      ap (λ b. cond b (core_over around.outer (word_breaks around None) input has_from false parts None columns None (option_map_or (λ known. known) input.items []))
      (core_unlooked (word_breaks around None) input)) (ap is_whole from.breaks)
      ∙ ap (λ found. core_over around.outer (word_breaks around None) input has_from false parts None columns None (option_map_or (λ known. known) found [])) from.items_are
      ∙ ap (λ (scope : Scope). core_meant (word_breaks around None)
      (clause_breaks (scope_of items) None columns None
      (core_clauses (in_clause (scope_of items) around.outer false) (in_clause scope around.outer true) scope has_from input None None parts))
      (core_clauses (in_clause (scope_of items) around.outer false) (in_clause scope around.outer true) scope has_from input None None parts) false) scope-is

  pub grouped_core-read : QueryRead (core_seen around None input has_from false parts None columns None) names all (Project (Aggregate q places aggregates) (made 0) [])
  grouped_core-read = subst (λ m. QueryRead m names all (Project (Aggregate q places aggregates) (made 0) [])) (sym core-is) (record {
    breaks = λ i. no_word around.may_ask [] i ++ ([] ++ whole i ++ [] ++ list.breaks i);
    columns = ap (option_map (named_from 1)) list.known ∙ ap Some (titles-named 1 names all);
    places = refl;
    make = λ wanted. λ i. Project (Aggregate (from.query_is i) places (list_made wanted i).aggregates) (list_made wanted i).items (list_made wanted i).subs;
  })
    where
      list_made : (wanted : List Kind) → made_items clauses.list (settle_known (list_columns clauses) wanted) (before_list clauses) ≡ made_with (made 0) aggregates
      list_made wanted = list.make (settle_known (list_columns clauses) wanted) (before_list clauses)
