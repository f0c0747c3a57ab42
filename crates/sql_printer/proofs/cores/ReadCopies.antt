-- SELECT lists of the columns of FROM.
use Rattle.std.proofs.Common.{◌≡◌, ℕ, suc, ◌+◌, Bool, false, List, [], ◌∷◌, length, map, Some, refl, sym, ap, subst, ◌∙◌, arith}
use Rattle.std.specs.Prelude.{slice_get}
use Rattle.std.specs.List.{range_with_len}
use Rattle.perm_values.specs.declared.kind.Kind.{Kind}
use Rattle.perm_values.specs.declared.kind.Kind.TheVariants as kinds
use Rattle.bag_algebra.specs.declared.expr.Expr.TheVariants.{Col}
use Rattle.perm_catalog.specs.Contents.{Contents}
use Rattle.sql_tree.specs.declared.query.SelectItem.{SelectItem}
use Rattle.name_meaning.specs.Meanings.{Surroundings}
use Rattle.name_meaning.specs.Trees.{item_of}
use Rattle.name_meaning.specs.declared.scope.Scope.{Scope}
use Rattle.tree_texts.specs.Forms as f
use Rattle.tree_texts.specs.Forms.{ExprForm}
use Rattle.tree_texts.specs.Trees.{AreItems, IsItem, an_item_tree, no_item_trees}
use Rattle.query_texts.specs.clauses.Names.{naming}
use Rattle.query_texts.specs.forms.ShownQueries.{columns, listed, named_from, one, own_column}
use Rattle.sql_printer.specs.rows.Printed.{columns_from, or_unread, unread_item}
use Rattle.sql_printer.specs.rows.PrintedExpressions.{before, integer}
use Rattle.sql_printer.proofs.rows.ShownRows.{shown_kinds}
use Rattle.sql_printer.specs.expressions.Reading.{Finds}
use Rattle.sql_printer.specs.expressions.Scopes.{marks}
use Rattle.sql_printer.proofs.expressions.PlainTrees.{plain-tree}
use Rattle.sql_printer.proofs.expressions.ReadLeaves.{column-read, integer-read}
use Rattle.sql_printer.specs.cores.Queries.{numbered_names}
use Rattle.sql_printer.proofs.cores.ReadFroms.{listed_names}
use Rattle.sql_printer.proofs.cores.ReadLists.{ListRead, item-read, no_items-read}

-- a column of the own row, by its number
abbrev numbered_column : ℕ → ℕ → ExprForm
numbered_column depth number = f.column (own_column (marks depth) number)

module _ (c : Contents) (has_from : Bool) (scope : Scope) (here : Surroundings) (depth : ℕ) (own : List Kind) (scopes : List (List Kind)) (unread : List ℕ)
    (finds : Finds (marks depth) (own ∷ scopes) unread here.scopes) (outside : here.argument ≡ false) where
  -- the columns from a place on, as far as there are kinds
  abbrev Kinds : ℕ → List Kind → Type 0
  Kinds place all = (i : ℕ) (kind : Kind) → slice_get all i ≡ Some kind → slice_get own (place + i) ≡ Some kind

  abbrev copies : ℕ → ℕ → List ExprForm
  copies number count = map f.column (map (own_column (marks depth)) (range_with_len number count))

  copies-read : (place out first : ℕ) (all : List Kind) → Kinds place all → {items : List SelectItem}
      → AreItems (named_from (marks out) first (copies (place + 1) (length all))) items
      → ListRead has_from scope here (map (item_of c) items) (numbered_names out first all) all (λ n. columns_from (before unread 0 + place) all) []
  copies-read place out first [] kinds_are no_item_trees = no_items-read has_from scope here
  copies-read place out first (kind ∷ all) kinds_are (an_item_tree {items = items} d ds) =
      let later : place + 1 ≡ suc place = omega arith in
      let next : first + 1 ≡ suc first = omega arith in
      let far : before unread 0 + suc place ≡ suc (before unread 0 + place) = omega arith in
      let at_place : place + 0 ≡ place = omega arith in
      let rest = copies-read (suc place) out (suc first) all
      (λ i k e. let on : suc place + i ≡ place + suc i = omega arith in ap (slice_get own) on ∙ kinds_are (suc i) k e)
      (subst (λ m. AreItems (named_from (marks out) (suc first) (copies (m + 1) (length all))) items) later
      (subst (λ m. AreItems (named_from (marks out) m (copies (place + 1 + 1) (length all))) items) next ds)) in
      let others = subst (λ m. ListRead has_from scope here (map (item_of c) items) (numbered_names out (suc first) all) all (λ n. columns_from m all) []) far rest in
      item-read c has_from scope here items (numbered_names out (suc first) all) kind all (λ n. Col 0 (before unread 0 + place))
      (λ n. columns_from (suc (before unread 0 + place)) all) [] [] 0 d (λ tree e. plain-tree c tt e)
      (λ tree e. column-read c here (marks depth) (own ∷ scopes) unread finds outside 0 place kind (sym (ap (slice_get own) at_place) ∙ kinds_are 0 kind refl) e) others refl

  -- all columns, or one that nothing reads
  pub columns-listed : (out first : ℕ) (all : List Kind) → Kinds 0 all → {item : SelectItem} {items : List SelectItem}
      → IsItem (listed (naming (marks out) first) one (columns (marks depth) (length all))).first (listed (naming (marks out) first) one (columns (marks depth) (length all))).name item
      → AreItems (listed (naming (marks out) first) one (columns (marks depth) (length all))).more items
      → ListRead has_from scope here (map (item_of c) (item ∷ items)) (listed_names out first all) (shown_kinds all) (λ n. or_unread unread_item (columns_from (before unread 0) all)) []
  columns-listed out first [] kinds_are d no_item_trees =
      item-read c has_from scope here [] [] kinds.Integer [] (λ n. integer 1) (λ n. []) [] [] 0 d (λ tree e. plain-tree c tt e) (λ tree e. integer-read c here 1 e)
      (no_items-read has_from scope here) refl
  columns-listed out first (kind ∷ all) kinds_are {item = item} {items = items} d ds =
      let none : before unread 0 + 0 ≡ before unread 0 = omega arith in
      subst (λ m. ListRead has_from scope here (map (item_of c) (item ∷ items)) (numbered_names out first (kind ∷ all)) (kind ∷ all) (λ n. columns_from m (kind ∷ all)) []) none
      (copies-read 0 out first (kind ∷ all) kinds_are (an_item_tree d ds))
