-- The items of a projection as they are read: the first beside the sublinks that none uses, then the others.
use Rattle.std.proofs.Common.{◌≡◌, ℕ, suc, ◌+◌, Bool, false, List, [], ◌∷◌, ◌++◌, length, length-append, map, refl, sym, ap, subst, ◌∙◌, append-nil, append_assoc, arith}
use Rattle.perm_values.specs.declared.kind.Kind.{Kind}
use Rattle.perm_values.specs.declared.kind.Kind.TheVariants as kinds
use Rattle.bag_algebra.specs.Kinds.{item_kinds}
use Rattle.bag_algebra.specs.WellFormed.{ItemsForm}
use Rattle.bag_algebra.specs.declared.expr.Expr.{Expr}
use Rattle.bag_algebra.specs.declared.expr.Item.{Item}
use Rattle.bag_algebra.specs.declared.query.Sublink.{Sublink}
use Rattle.perm_catalog.specs.Contents.{Contents}
use Rattle.sql_tree.specs.declared.expression.ExprTree.{ExprTree}
use Rattle.sql_tree.specs.declared.query.SelectItem.{SelectItem}
use Rattle.name_meaning.specs.Meanings.{Surroundings}
use Rattle.name_meaning.specs.Trees.{item_of, part_of}
use Rattle.name_meaning.specs.declared.scope.Scope.{Scope}
use Rattle.tree_texts.specs.Forms.{ExprForm}
use Rattle.tree_texts.specs.Trees.{AreItems, IsExpr, IsItem, an_item_tree, no_item_trees}
use Rattle.query_texts.specs.clauses.Names.{naming}
use Rattle.query_texts.specs.clauses.Unused.{items_use, spare}
use Rattle.query_texts.specs.forms.ShownExpressions.{shown_expr, beside as shown_beside}
use Rattle.query_texts.specs.forms.ShownQueries.{named_from, one, projected}
use Rattle.sql_printer.specs.rows.Printed.{asked_by, first_beside, idle, printed_items, taken}
use Rattle.sql_printer.specs.rows.PrintedExpressions.{asked_in, integer, printed_expr}
use Rattle.sql_printer.specs.rows.Writable.{WritableItems}
use Rattle.sql_printer.proofs.rows.ShownRows.{shown_kinds}
use Rattle.sql_printer.specs.expressions.Reading.{Finds, IsRead}
use Rattle.sql_printer.specs.expressions.Scopes.{marks}
use Rattle.sql_printer.proofs.expressions.PlainShown.{AllPlain, plain-beside, plain-shown}
use Rattle.sql_printer.proofs.expressions.PlainTrees.{plain-tree}
use Rattle.sql_printer.proofs.expressions.ReadExpressions.{expr-read, taken-append, taken-count}
use Rattle.sql_printer.proofs.expressions.ReadLeaves.{integer-read}
use Rattle.sql_printer.specs.cores.Queries.{numbered_names}
use Rattle.sql_printer.proofs.cores.ReadConditions.{SubsRead, beside-first, beside-read, beside_from, spared-count, spared-read, sublinks-found, taken-spared}
use Rattle.sql_printer.proofs.cores.ReadFroms.{listed_names}
use Rattle.sql_printer.proofs.cores.ReadLists.{ListRead, item-read, item_at, no_items-read}

module _ (c : Contents) (prefix : List ℕ) (forms : List ExprForm) (asked : List Sublink) (scopes : List (List Kind)) (all : List Kind) (unread : List ℕ) (here : Surroundings)
    (finds : Finds prefix scopes unread here.scopes) (sublinks : SubsRead c here forms asked all) (outside : here.argument ≡ false) (plain : AllPlain forms)
    (has_from : Bool) (scope : Scope) where
  abbrev shown_item : Item → ExprForm
  shown_item item = shown_expr prefix forms item.expr

  -- the items behind others
  items-read : (items : List Item) → ItemsForm scopes all items → WritableItems items → (out first : ℕ) {trees : List SelectItem}
      → AreItems (named_from (marks out) first (map shown_item items)) trees
      → ListRead has_from scope here (map (item_of c) trees) (numbered_names out first (item_kinds items)) (item_kinds items) (λ n. printed_items unread n items) (taken asked (asked_by items))
  items-read [] form w out first no_item_trees = no_items-read has_from scope here
  items-read (item ∷ items) form w out first (an_item_tree {item = tree} {items = trees} d ds) =
      let next : first + 1 ≡ suc first = omega arith in
      let numbers = asked_in item.expr in
      let rest = items-read items (λ k e h. form (suc k) e (omega (arith, h))) w.1 out (suc first)
      (subst (λ m. AreItems (named_from (marks out) m (map shown_item items)) trees) next ds) in
      subst (ListRead has_from scope here (map (item_of c) (tree ∷ trees)) (numbered_names out first (item_kinds (item ∷ items))) (item_kinds (item ∷ items)) (λ n. printed_items unread n (item ∷ items)))
      (sym (taken-append asked numbers (asked_by items)))
      (item-read c has_from scope here trees (numbered_names out (suc first) (item_kinds items)) item.kind (item_kinds items) (λ n. printed_expr unread n item.expr)
      (λ n. printed_items unread n items) (taken asked numbers) (taken asked (asked_by items)) (length numbers) d
      (λ tree e. plain-tree c (plain-shown prefix forms plain item.expr) e)
      (λ tree e. expr-read c prefix forms asked scopes all unread here finds (sublinks-found c here forms asked all sublinks) outside item.expr item.kind (form 0 item (omega arith)) w.0 e)
      rest (taken-count asked numbers))

  -- the list of a projection
  pub record ProjectedRead (items : List Item) (out first : ℕ) (trees : List SelectItem) : Type 0 where
    pub made : ℕ → List Item
    pub read : ListRead has_from scope here (map (item_of c) trees) (listed_names out first (item_kinds items)) (shown_kinds (item_kinds items)) made
        (taken asked (idle (items_use items) (length asked) ++ asked_by items))
    pub whole : made 0 ≡ first_beside unread (length (idle (items_use items) (length asked))) items

  abbrev left_over : List Item → List ExprForm
  left_over items = spare (items_use items) 0 forms

  -- an expression beside the sublinks that no item uses
  besides-read : (items : List Item) (kind : Kind) (a : ExprForm) (made : ℕ → Expr) (subs : List Sublink)
      → ((tree : ExprTree) → IsExpr a tree → IsRead ((part_of c tree).means here) kind made subs) → {tree : ExprTree} → IsExpr (shown_beside kind (left_over items) a) tree
      → IsRead ((part_of c tree).means here) kind
      (λ n. beside_from n kind (length (idle (items_use items) (length asked))) (made (n + length (idle (items_use items) (length asked)))))
      (taken asked (idle (items_use items) (length asked)) ++ subs)
  besides-read items kind a made subs read {tree = tree} d =
      let used = items_use items in
      let at : ℕ → ℕ → Expr = λ count n. beside_from n kind count (made (n + count)) in
      subst (λ others. IsRead ((part_of c tree).means here) kind (at (length (idle used (length asked)))) (others ++ subs)) (sym (taken-spared used asked))
      (subst (λ count. IsRead ((part_of c tree).means here) kind (at count) (spare used 0 asked ++ subs)) (spared-count asked used)
      (beside-read c here kind a made subs read (left_over items) (spare used 0 asked) (spared-read c here used 0 forms asked all sublinks) d))

  pub projected-read : (items : List Item) → ItemsForm scopes all items → WritableItems items → AllPlain (left_over items) → (out first : ℕ) {item : SelectItem} {trees : List SelectItem}
      → IsItem (projected prefix (naming (marks out) first) forms (left_over items) items).first (projected prefix (naming (marks out) first) forms (left_over items) items).name item
      → AreItems (projected prefix (naming (marks out) first) forms (left_over items) items).more trees → ProjectedRead items out first (item ∷ trees)
  projected-read [] form w unused out first {item = only} d no_item_trees =
      let count = length (idle (items_use []) (length asked)) in
      let others = taken asked (idle (items_use []) (length asked)) in
      record {
        made = λ n. item_at kinds.Integer (beside_from n kinds.Integer count (integer 1)) ∷ [];
        read = subst (ListRead has_from scope here (map (item_of c) (only ∷ [])) (listed_names out first []) (kinds.Integer ∷ []) (λ n. item_at kinds.Integer (beside_from n kinds.Integer count (integer 1)) ∷ []))
            (append-nil (others ++ []) ∙ sym (taken-append asked (idle (items_use []) (length asked)) []))
            (item-read c has_from scope here [] [] kinds.Integer [] (λ n. beside_from n kinds.Integer count (integer 1)) (λ n. []) (others ++ []) [] (length (others ++ [])) d
            (λ tree e. plain-tree c (plain-beside kinds.Integer (left_over []) one unused tt) e)
            (λ tree e. besides-read [] kinds.Integer one (λ n. integer 1) [] (λ tree g. integer-read c here 1 g) e) (no_items-read has_from scope here) refl);
        whole = ap (λ e. item_at kinds.Integer e ∷ []) (beside-first kinds.Integer count (integer 1));
      }
  projected-read (item ∷ items) form w unused out first {item = tree} {trees = trees} d ds =
      let every = item ∷ items in
      let numbers = asked_in item.expr in
      let spared = idle (items_use every) (length asked) in
      let count = length spared in
      let next : first + 1 ≡ suc first = omega arith in
      let made : ℕ → List Item = λ n. item_at item.kind (beside_from n item.kind count (printed_expr unread (n + count) item.expr)) ∷ printed_items unread (n + length (spared ++ numbers)) items in
      let rest = items-read items (λ k e h. form (suc k) e (omega (arith, h))) w.1 out (suc first) (subst (λ m. AreItems (named_from (marks out) m (map shown_item items)) trees) next ds) in
      let subs_are : (taken asked spared ++ taken asked numbers) ++ taken asked (asked_by items) ≡ taken asked (spared ++ asked_by every) =
      append_assoc (taken asked spared) (taken asked numbers) (taken asked (asked_by items))
      ∙ ap (λ more. taken asked spared ++ more) (sym (taken-append asked numbers (asked_by items))) ∙ sym (taken-append asked spared (asked_by every)) in
      let counted : length (taken asked spared ++ taken asked numbers) ≡ length (spared ++ numbers) =
      ap length (sym (taken-append asked spared numbers)) ∙ taken-count asked (spared ++ numbers) in
      let own = item-read c has_from scope here trees (numbered_names out (suc first) (item_kinds items)) item.kind (item_kinds items)
      (λ n. beside_from n item.kind count (printed_expr unread (n + count) item.expr)) (λ n. printed_items unread n items)
      (taken asked spared ++ taken asked numbers) (taken asked (asked_by items)) (length (spared ++ numbers)) d
      (λ tree e. plain-tree c (plain-beside item.kind (left_over every) (shown_item item) unused (plain-shown prefix forms plain item.expr)) e)
      (λ tree e. besides-read every item.kind (shown_item item) (λ n. printed_expr unread n item.expr) (taken asked numbers)
      (λ tree g. expr-read c prefix forms asked scopes all unread here finds (sublinks-found c here forms asked all sublinks) outside item.expr item.kind (form 0 item (omega arith)) w.0 g) e)
      rest counted in
      let none : 0 + count ≡ count = omega arith in
      let behind : 0 + length (spared ++ numbers) ≡ count + length numbers = omega (arith, length-append spared numbers) in
      record {
        made = made;
        read = subst (ListRead has_from scope here (map (item_of c) (tree ∷ trees)) (numbered_names out first (item_kinds every)) (item_kinds every) made) subs_are own;
        whole = (λ i. item_at item.kind (beside_from 0 item.kind count (printed_expr unread (none i) item.expr)) ∷ printed_items unread (behind i) items)
            ∙ ap (λ e. item_at item.kind e ∷ printed_items unread (count + length numbers) items) (beside-first item.kind count (printed_expr unread count item.expr));
      }
