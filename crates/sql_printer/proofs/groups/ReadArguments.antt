-- What stands below groups as it is read: the grouped columns, then the arguments.
use Rattle.std.proofs.Common.{◌≡◌, ℕ, suc, ◌+◌, Bool, false, List, [], ◌∷◌, ◌++◌, length, map, Option, Some, None, refl, sym, subst, arith}
use Rattle.perm_values.specs.Rows.{PlacesWithin}
use Rattle.perm_values.specs.declared.kind.Kind.{Kind}
use Rattle.perm_values.specs.declared.kind.Kind.TheVariants as kinds
use Rattle.bag_algebra.specs.Kinds.{kind_in, item_kinds}
use Rattle.bag_algebra.specs.WellFormed.{AggregatesForm, HasKind, aggr_form}
use Rattle.bag_algebra.specs.declared.expr.Expr.{Expr}
use Rattle.bag_algebra.specs.declared.expr.Item.{Item}
use Rattle.bag_algebra.specs.declared.query.AggFn.{AggFn}
use Rattle.bag_algebra.specs.declared.query.AggFn.TheVariants as agg
use Rattle.bag_algebra.specs.declared.query.Aggr.{Aggr}
use Rattle.contribution.proofs.ColumnQueries.{kind_there}
use Rattle.perm_catalog.specs.Contents.{Contents}
use Rattle.sql_tree.specs.declared.expression.ExprTree.{ExprTree}
use Rattle.sql_tree.specs.declared.query.SelectItem.{SelectItem}
use Rattle.name_meaning.specs.Meanings.{Surroundings}
use Rattle.name_meaning.specs.Trees.{item_of, part_of}
use Rattle.name_meaning.specs.declared.scope.Scope.{Scope}
use Rattle.tree_texts.specs.Forms.{ExprForm}
use Rattle.tree_texts.specs.Trees.{AreItems, IsExpr, IsItem, an_item_tree, no_item_trees}
use Rattle.query_texts.specs.clauses.Names.{naming}
use Rattle.query_texts.specs.forms.ShownExpressions.{shown_expr}
use Rattle.query_texts.specs.forms.ShownQueries as writing
use Rattle.query_texts.specs.forms.ShownQueries.{listed, named_from, one}
use Rattle.sql_printer.specs.rows.Printed as printing
use Rattle.sql_printer.specs.rows.Printed.{or_unread, unread_item}
use Rattle.sql_printer.specs.rows.PrintedExpressions.{asked_in, integer, printed_expr}
use Rattle.sql_printer.specs.rows.Writable.{Writable, WritableAggregates, WritableOption}
use Rattle.sql_printer.proofs.rows.AskedNumbers.{asked-below}
use Rattle.sql_printer.proofs.rows.ShownRows.{shown_kinds}
use Rattle.sql_printer.specs.expressions.Reading.{Finds, IsRead}
use Rattle.sql_printer.specs.expressions.Scopes.{marks}
use Rattle.sql_printer.proofs.expressions.KindsOf.{kind-is}
use Rattle.sql_printer.proofs.expressions.PlainShown.{plain-shown}
use Rattle.sql_printer.proofs.expressions.PlainTrees.{PlainTree, plain-tree}
use Rattle.sql_printer.proofs.expressions.ReadExpressions.{expr-read}
use Rattle.sql_printer.proofs.expressions.ReadLeaves.{column-read, integer-read}
use Rattle.sql_printer.specs.cores.Queries.{numbered_names}
use Rattle.sql_printer.proofs.cores.ReadAsked.{printed-anywhere}
use Rattle.sql_printer.proofs.cores.ReadConditions.{sublinks-found}
use Rattle.sql_printer.proofs.cores.ReadFroms.{listed_names}
use Rattle.sql_printer.proofs.cores.ReadLists.{ListRead, item-read, no_items-read}
use Rattle.sql_printer.proofs.cores.ReadSublinkForms.{none_taken}

module _ (c : Contents) (has_from : Bool) (scope : Scope) (here : Surroundings) where
  -- each form is read as the item, and has no sublinks
  abbrev pub FormsRead : List ExprForm → List Item → Type 0
  FormsRead [] [] = Unit {0}
  FormsRead [] (item ∷ items) = ⊥
  FormsRead (form ∷ forms) [] = ⊥
  FormsRead (form ∷ forms) (item ∷ items) =
      ((tree : ExprTree) → IsExpr form tree → PlainTree c tree × IsRead ((part_of c tree).means here) item.kind (λ n. item.expr) []) × FormsRead forms items

  pub forms-append : (first more : List ExprForm) (items others : List Item) → FormsRead first items → FormsRead more others → FormsRead (first ++ more) (items ++ others)
  forms-append [] more [] others r s = s
  forms-append [] more (item ∷ items) others r s = absurd r
  forms-append (form ∷ first) more [] others r s = absurd r
  forms-append (form ∷ first) more (item ∷ items) others r s = (r.0, forms-append first more items others r.1 s)

  forms-read : (forms : List ExprForm) (items : List Item) → FormsRead forms items → (out first : ℕ) {trees : List SelectItem} → AreItems (named_from (marks out) first forms) trees
      → ListRead has_from scope here (map (item_of c) trees) (numbered_names out first (item_kinds items)) (item_kinds items) (λ n. items) []
  forms-read [] [] r out first no_item_trees = no_items-read has_from scope here
  forms-read [] (item ∷ items) r out first d = absurd r
  forms-read (form ∷ forms) [] r out first d = absurd r
  forms-read (form ∷ forms) (item ∷ items) r out first (an_item_tree {items = trees} d ds) =
      let next : first + 1 ≡ suc first = omega arith in
      item-read c has_from scope here trees (numbered_names out (suc first) (item_kinds items)) item.kind (item_kinds items) (λ n. item.expr) (λ n. items) [] [] 0 d
      (λ tree e. (r.0 tree e).0) (λ tree e. (r.0 tree e).1)
      (forms-read forms items r.1 out (suc first) (subst (λ m. AreItems (named_from (marks out) m forms) trees) next ds)) refl

  -- a list of them, or one that nothing reads
  pub listed-read : (forms : List ExprForm) (items : List Item) → FormsRead forms items → (out first : ℕ) {item : SelectItem} {trees : List SelectItem}
      → IsItem (listed (naming (marks out) first) one forms).first (listed (naming (marks out) first) one forms).name item
      → AreItems (listed (naming (marks out) first) one forms).more trees
      → ListRead has_from scope here (map (item_of c) (item ∷ trees)) (listed_names out first (item_kinds items)) (shown_kinds (item_kinds items)) (λ n. or_unread unread_item items) []
  listed-read [] [] r out first d no_item_trees =
      item-read c has_from scope here [] [] kinds.Integer [] (λ n. integer 1) (λ n. []) [] [] 0 d (λ tree e. plain-tree c tt e) (λ tree e. integer-read c here 1 e)
      (no_items-read has_from scope here) refl
  listed-read [] (item ∷ items) r out first d ds = absurd r
  listed-read (form ∷ forms) [] r out first d ds = absurd r
  listed-read (form ∷ forms) (item ∷ items) r out first d ds = forms-read (form ∷ forms) (item ∷ items) r out first (an_item_tree d ds)

  -- ---- columns and arguments

  module _ (depth : ℕ) (own : List Kind) (front : ℕ) (outer : List (List Kind)) (unread : List ℕ) (finds : Finds (marks depth) (own ∷ outer) (front ∷ unread) here.scopes) (outside : here.argument ≡ false) where
    pub grouped-read : (groups : List ℕ) → PlacesWithin (length own) groups → FormsRead (writing.grouped_columns (marks depth) groups) (printing.grouped front own groups)
    grouped-read [] within = tt
    grouped-read (place ∷ groups) within = (
      λ tree d. (
        plain-tree c tt d,
        column-read c here (marks depth) (own ∷ outer) (front ∷ unread) finds outside 0 place (kind_in own place) (kind_there own place (within 0 place (omega arith))) d,
      ),
      grouped-read groups (λ k e h. within (suc k) e (omega (arith, h))),
    )

    argument-read : (part : Expr) (kind : Kind) → HasKind (own ∷ outer) [] part kind → Writable part → (tree : ExprTree) → IsExpr (shown_expr (marks depth) [] part) tree
        → PlainTree c tree × IsRead ((part_of c tree).means here) (printing.kind_of (own ∷ outer) part) (λ n. printed_expr (front ∷ unread) 0 part) []
    argument-read part kind h w tree d = (
      plain-tree c (plain-shown (marks depth) [] tt part) d,
      subst (λ k. IsRead ((part_of c tree).means here) k (λ n. printed_expr (front ∷ unread) 0 part) []) (sym (kind-is (own ∷ outer) part kind h))
          (subst (λ m. IsRead ((part_of c tree).means here) kind m []) (λ i n. printed-anywhere (own ∷ outer) (front ∷ unread) part kind h n 0 i)
          (subst (IsRead ((part_of c tree).means here) kind (λ n. printed_expr (front ∷ unread) n part)) (none_taken (asked_in part) (asked-below (own ∷ outer) [] part kind h))
          (expr-read c (marks depth) [] [] (own ∷ outer) [] (front ∷ unread) here finds (sublinks-found c here [] [] [] tt) outside part kind h w d))),
    )

    by_function : (function : AggFn) (part : Option Expr) (kind : Kind) → aggr_form function part (own ∷ outer) kind → WritableOption part → (tree : ExprTree)
        → IsExpr (writing.argument (marks depth) part) tree
        → PlainTree c tree × IsRead ((part_of c tree).means here) (printing.argument (own ∷ outer) (front ∷ unread) part).kind (λ n. (printing.argument (own ∷ outer) (front ∷ unread) part).expr) []
    by_function function None kind form w tree d = (plain-tree c tt d, integer-read c here 1 d)
    by_function agg.CountRows (Some part) kind form w tree d = absurd form
    by_function agg.Count (Some part) kind form w tree d = argument-read part form.argument.shared form.argument.parts w tree d
    by_function agg.CountDistinct (Some part) kind form w tree d = argument-read part form.argument.shared form.argument.parts w tree d
    by_function agg.Sum (Some part) kind form w tree d = argument-read part kinds.Integer form.0 w tree d
    by_function agg.Min (Some part) kind form w tree d = argument-read part kind form.0 w tree d
    by_function agg.Max (Some part) kind form w tree d = argument-read part kind form.0 w tree d

    pub arguments-read : (aggregates : List Aggr) → AggregatesForm (own ∷ outer) aggregates → WritableAggregates aggregates
        → FormsRead (writing.arguments (marks depth) aggregates) (printing.arguments (own ∷ outer) (front ∷ unread) aggregates)
    arguments-read [] form w = tt
    arguments-read (aggregate ∷ aggregates) form w = (
      λ tree d. by_function aggregate.function aggregate.argument aggregate.kind (form 0 aggregate (omega arith)) w.0 tree d,
      arguments-read aggregates (λ k e h. form (suc k) e (omega (arith, h))) w.1,
    )
