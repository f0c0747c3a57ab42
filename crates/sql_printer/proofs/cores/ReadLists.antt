-- SELECT lists whose items are read.
use Rattle.std.proofs.Common.{◌≡◌, ℕ, suc, ◌+◌, Bool, false, ◌||◌, List, [], ◌∷◌, ◌++◌, length, map, Option, Some, None, option_map, refl, sym, ap, subst, ◌∙◌}
use Rattle.std.specs.List.{list_any}
use Rattle.std.specs.Prelude.{drop, take}
use Rattle.perm_values.specs.declared.kind.Kind.{Kind}
use Rattle.bag_algebra.specs.declared.expr.Expr.{Expr}
use Rattle.bag_algebra.specs.declared.expr.Item.{Item}
use Rattle.bag_algebra.specs.declared.query.Sublink.{Sublink}
use Rattle.perm_catalog.specs.Contents.{Contents}
use Rattle.sql_tree.specs.declared.expression.ExprTree.{ExprTree}
use Rattle.sql_tree.specs.declared.name.Name.{Name}
use Rattle.sql_tree.specs.declared.query.SelectItem.{SelectItem}
use Rattle.sql_tree.specs.declared.query.SelectItem.TheVariants.{Value}
use Rattle.name_meaning.proofs.Equations.{selectitem-value, token}
use Rattle.name_meaning.specs.Items.{Made, SelectMeant, SelectPart, Titled, all_known, first_wanted, items_breaks, made_before, made_items, named_from, value_made, value_meant, width_of_item}
use Rattle.name_meaning.specs.Meanings.{Before, Meant, Surroundings, settled}
use Rattle.name_meaning.specs.Operands.{behind}
use Rattle.name_meaning.specs.Trees.{item_of, part_of}
use Rattle.name_meaning.specs.declared.scope.Scope.{Scope}
use Rattle.tree_texts.specs.Forms.{ExprForm}
use Rattle.tree_texts.specs.Trees.{IsExpr, IsItem, item_tree}
use Rattle.sql_printer.specs.expressions.Reading.{IsRead}
use Rattle.sql_printer.proofs.expressions.PlainTrees.{PlainTree}
use Rattle.sql_printer.proofs.expressions.ReadParts.{read-seen}
use Rattle.sql_printer.specs.cores.Queries.{out_columns}

-- ---- columns

abbrev pub titles : List (List ℕ) → List Kind → List Titled
titles [] kinds = []
titles (name ∷ names) [] = []
titles (name ∷ names) (kind ∷ kinds) = record { name = Some name; kind = Some kind } ∷ titles names kinds

pub titles-named : (n : ℕ) (names : List (List ℕ)) (kinds : List Kind) → named_from n (titles names kinds) ≡ out_columns names kinds
titles-named n [] kinds = refl
titles-named n (name ∷ names) [] = refl
titles-named n (name ∷ names) (kind ∷ kinds) = ap (λ more. record { name = name; kind = Some kind } ∷ more) (titles-named (suc n) names kinds)

abbrev pub item_at : Kind → Expr → Item
item_at kind e = record { expr = e; kind = kind }

abbrev pub made_of : List Item → List Sublink → Made
made_of items subs = record { items = items; subs = subs; aggregates = [] }

-- ---- one item

-- what it breaks, its column, and what it is made to behind so many sublinks
pub record ItemRead (m : SelectMeant) (name : List ℕ) (kind : Kind) (made : ℕ → Expr) (subs : List Sublink) : Type 0 where
  pub breaks : m.breaks ≡ []
  pub columns : m.columns ≡ Some (record { name = Some name; kind = Some kind } ∷ [])
  pub make : (wanted : List Kind) (before : Before) → m.make wanted before ≡ made_of (item_at kind (made before.subs) ∷ []) subs

pub value-read : (name : List ℕ) (m : Meant) (kind : Kind) (made : ℕ → Expr) (subs : List Sublink) → IsRead m kind made subs
    → ItemRead (value_meant (Some name) m) name kind made subs
value-read name m kind made subs r = record {
  breaks = r.breaks;
  columns = ap (λ found. Some (record { name = Some name; kind = found } ∷ [])) (read-seen m kind made subs r);
  make = λ wanted before.
      (λ i. value_made (settled (r.kind_is i) (first_wanted wanted)) (m.make (settled (r.kind_is i) (first_wanted wanted)) before))
      ∙ ap (value_made kind) (r.make kind before);
}

-- ---- the list

abbrev pub seen_in : Bool → Scope → Surroundings → List SelectPart → List SelectMeant
seen_in has_from scope here parts = map (λ (item : SelectPart). item.means has_from scope here) parts

pub record ListRead (has_from : Bool) (scope : Scope) (here : Surroundings) (parts : List SelectPart) (names : List (List ℕ)) (kinds : List Kind)
    (made : ℕ → List Item) (subs : List Sublink) : Type 0 where
  pub plain : list_any (λ (item : SelectPart). item.aggregating) parts ≡ false
  pub breaks : items_breaks (seen_in has_from scope here parts) ≡ []
  pub known : all_known (seen_in has_from scope here parts) ≡ Some (titles names kinds)
  pub make : (wanted : List Kind) (before : Before) → made_items (seen_in has_from scope here parts) wanted before ≡ made_of (made before.subs) subs

pub no_items-read : (has_from : Bool) (scope : Scope) (here : Surroundings) → ListRead has_from scope here [] [] [] (λ n. []) []
no_items-read has_from scope here = record { plain = refl; breaks = refl; known = refl; make = λ wanted before. refl }

pub known-next : (m : SelectMeant) (ms : List SelectMeant) (columns more : List Titled) → m.columns ≡ Some columns → all_known ms ≡ Some more
    → all_known (m ∷ ms) ≡ Some (columns ++ more)
known-next m ms columns more e k =
    ap (λ found. elim found as (λ _. Option (List Titled)) [ None ↦ None | Some own ↦ option_map (λ others. own ++ others) (all_known ms) ]) e
    ∙ ap (option_map (λ others. columns ++ others)) k

made-next : (own : Made) (items : List Item) (subs : List Sublink) (rest : Before → Made) (others : ℕ → List Item) (more : List Sublink) (before : Before)
    → own ≡ made_of items subs → ((b : Before) → rest b ≡ made_of (others b.subs) more)
    → made_before own (rest (behind before own.subs own.aggregates)) ≡ made_of (items ++ others (before.subs + length subs)) (subs ++ more)
made-next own items subs rest others more before is all =
    ap (λ (m : Made). made_before m (rest (behind before m.subs m.aggregates))) is ∙ ap (made_before (made_of items subs)) (all (behind before subs []))

module _ (c : Contents) (has_from : Bool) (scope : Scope) (here : Surroundings) where
  abbrev pub named_part : ExprTree → List ℕ → SelectPart
  named_part tree name = record { aggregating = (part_of c tree).aggregating; means = λ has_from scope here. value_meant (Some name) ((part_of c tree).means here) }

  pub part-is : (tree : ExprTree) (name : Name) → item_of c (Value tree (Some name)) ≡ named_part tree name.text
  unfolding token
  part-is tree name = selectitem-value c tree (Some name)

  first-read : (tree : ExprTree) (parts : List SelectPart) (name : List ℕ) (names : List (List ℕ)) (kind : Kind) (kinds : List Kind) (made : ℕ → Expr)
      (others : ℕ → List Item) (subs more : List Sublink) (count : ℕ) → PlainTree c tree → IsRead ((part_of c tree).means here) kind made subs
      → ListRead has_from scope here parts names kinds others more → length subs ≡ count
      → ListRead has_from scope here (named_part tree name ∷ parts) (name ∷ names) (kind ∷ kinds) (λ n. item_at kind (made n) ∷ others (n + count)) (subs ++ more)
  first-read tree parts name names kind kinds made others subs more count plain r rest is =
      let m = value_meant (Some name) ((part_of c tree).means here) in
      let own = value-read name ((part_of c tree).means here) kind made subs r in
      let ms = seen_in has_from scope here parts in
      record {
        plain = λ i. plain i || rest.plain i;
        breaks = λ i. own.breaks i ++ rest.breaks i;
        known = known-next m ms (record { name = Some name; kind = Some kind } ∷ []) (titles names kinds) own.columns rest.known;
        make = λ wanted before.
            made-next (m.make (take (width_of_item m) wanted) before) (item_at kind (made before.subs) ∷ []) subs (made_items ms (drop (width_of_item m) wanted)) others more before
            (own.make (take (width_of_item m) wanted) before) (rest.make (drop (width_of_item m) wanted))
            ∙ (λ i. made_of (item_at kind (made before.subs) ∷ others (before.subs + is i)) (subs ++ more));
      }

  -- an item with a name, before others
  pub item-read : {a : ExprForm} {name : List ℕ} {item : SelectItem} (items : List SelectItem) (names : List (List ℕ)) (kind : Kind) (kinds : List Kind) (made : ℕ → Expr)
      (others : ℕ → List Item) (subs more : List Sublink) (count : ℕ) → IsItem a name item → ((tree : ExprTree) → IsExpr a tree → PlainTree c tree)
      → ((tree : ExprTree) → IsExpr a tree → IsRead ((part_of c tree).means here) kind made subs)
      → ListRead has_from scope here (map (item_of c) items) names kinds others more → length subs ≡ count
      → ListRead has_from scope here (map (item_of c) (item ∷ items)) (name ∷ names) (kind ∷ kinds) (λ n. item_at kind (made n) ∷ others (n + count)) (subs ++ more)
  item-read {name = name} {item = item} items names kind kinds made others subs more count (item_tree {x = x} alias d named is) plain read rest same =
      let list : ℕ → List Item = λ n. item_at kind (made n) ∷ others (n + count) in
      let part_named : item_of c item ≡ named_part x name = ap (item_of c) is ∙ part-is x alias ∙ ap (named_part x) named in
      subst (λ part. ListRead has_from scope here (part ∷ map (item_of c) items) (name ∷ names) (kind ∷ kinds) list (subs ++ more)) (sym part_named)
      (first-read x (map (item_of c) items) name names kind kinds made others subs more count (plain x d) (read x d) rest same)
