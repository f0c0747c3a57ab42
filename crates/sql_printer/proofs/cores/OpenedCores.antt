-- The tree of a SELECT without groups, opened.
use Rattle.std.proofs.Common.{◌≡◌, ℕ, Bool, List, [], ◌∷◌, map, Option, Some, None, option_map, ap, ◌∙◌}
use Rattle.perm_catalog.specs.Contents.{Contents}
use Rattle.sql_tree.specs.declared.expression.ExprTree.{ExprTree}
use Rattle.sql_tree.specs.declared.query.Core.{Core}
use Rattle.sql_tree.specs.declared.query.SelectItem.{SelectItem}
use Rattle.sql_tree.specs.declared.source.FromTree.{FromTree}
use Rattle.name_meaning.proofs.Equations.{core-record-none-none, core-record-some-none, token}
use Rattle.name_meaning.specs.Cores.{BodyPart, core_seen, has_some}
use Rattle.name_meaning.specs.Froms.{from_all}
use Rattle.name_meaning.specs.Meanings.{Around, QueryMeant}
use Rattle.name_meaning.specs.Trees.{core_of, from_of, item_of, part_of}
use Rattle.tree_texts.specs.Forms as f
use Rattle.tree_texts.specs.Forms.{ConditionForm, ExprForm, FromForm, ItemForms}
use Rattle.tree_texts.specs.Trees.{AreItems, AreSources, IsCondition, IsCore, IsExpr, IsItem, condition_tree, no_column_trees, no_condition_tree, select_tree}

-- what a core means over its parts
abbrev pub core_over_parts : Contents → Bool → List SelectItem → List FromTree → Option ExprTree → Around → QueryMeant
core_over_parts c distinct items sources tested around =
    core_seen around None (from_all around.outer (map (from_of c) sources)) (has_some (map (from_of c) sources)) distinct (map (item_of c) items)
    (option_map (part_of c) tested) [] None

-- the parts of a core's tree
pub record OpenedCore (c : Contents) (distinct : Bool) (a : ExprForm) (name : List ℕ) (more : ItemForms) (origin : FromForm) (tree : Core) (tested : Option ExprTree) : Type 0 where
  pub item : SelectItem
  pub items : List SelectItem
  pub sources : List FromTree
  pub first : IsItem a name item
  pub rest : AreItems more items
  pub from : AreSources origin sources
  pub unasked : (core_of c tree).word ≡ None
  pub means : (around : Around) → (core_of c tree).means around ≡ core_over_parts c distinct (item ∷ items) sources tested around

pub opened-plain : (c : Contents) {distinct : Bool} {a : ExprForm} {name : List ℕ} {more : ItemForms} {origin : FromForm} {tree : Core}
    → IsCore (f.select distinct a name more origin f.no_condition [] f.no_condition) tree → OpenedCore c distinct a name more origin tree None
unfolding token
opened-plain c {distinct = distinct} {tree = tree} (select_tree {item = item} {items = items} {sources = sources} at d ds from no_condition_tree no_column_trees no_condition_tree is) =
    let whole = ap (core_of c) is ∙ core-record-none-none c at None distinct (item ∷ items) sources [] in
    record {
      item = item;
      items = items;
      sources = sources;
      first = d;
      rest = ds;
      from = from;
      unasked = ap (λ (part : BodyPart). part.word) whole;
      means = λ around. ap (λ (part : BodyPart). part.means around) whole;
    }

-- with a condition
pub record OpenedTest (c : Contents) (distinct : Bool) (a : ExprForm) (name : List ℕ) (more : ItemForms) (origin : FromForm) (condition : ExprForm) (tree : Core) : Type 0 where
  pub tested : ExprTree
  pub condition_is : IsExpr condition tested
  pub core : OpenedCore c distinct a name more origin tree (Some tested)

pub opened-test : (c : Contents) {distinct : Bool} {a : ExprForm} {name : List ℕ} {more : ItemForms} {origin : FromForm} {condition : ExprForm} {tree : Core}
    → IsCore (f.select distinct a name more origin (f.condition condition) [] f.no_condition) tree → OpenedTest c distinct a name more origin condition tree
unfolding token
opened-test c {distinct = distinct} {tree = tree} (select_tree {item = item} {items = items} {sources = sources} at d ds from (condition_tree {x = tested} e) no_column_trees no_condition_tree is) =
    let whole = ap (core_of c) is ∙ core-record-some-none c at None distinct (item ∷ items) sources tested [] in
    record {
      tested = tested;
      condition_is = e;
      core = record {
        item = item;
        items = items;
        sources = sources;
        first = d;
        rest = ds;
        from = from;
        unasked = ap (λ (part : BodyPart). part.word) whole;
        means = λ around. ap (λ (part : BodyPart). part.means around) whole;
      };
    }

-- with a condition or without
pub record OpenedSelect (c : Contents) (distinct : Bool) (a : ExprForm) (name : List ℕ) (more : ItemForms) (origin : FromForm) (test : ConditionForm) (tree : Core) : Type 0 where
  pub tested : Option ExprTree
  pub condition_is : IsCondition test tested
  pub core : OpenedCore c distinct a name more origin tree tested

pub opened-select : (c : Contents) {distinct : Bool} {a : ExprForm} {name : List ℕ} {more : ItemForms} {origin : FromForm} {test : ConditionForm} {tree : Core}
    → IsCore (f.select distinct a name more origin test [] f.no_condition) tree → OpenedSelect c distinct a name more origin test tree
opened-select c (select_tree at d ds from no_condition_tree no_column_trees no_condition_tree is) = record {
  tested = None;
  condition_is = no_condition_tree;
  core = opened-plain c (select_tree at d ds from no_condition_tree no_column_trees no_condition_tree is);
}
opened-select c (select_tree at d ds from (condition_tree e) no_column_trees no_condition_tree is) =
    let t = opened-test c (select_tree at d ds from (condition_tree e) no_column_trees no_condition_tree is) in
    record { tested = Some t.tested; condition_is = condition_tree t.condition_is; core = t.core }
