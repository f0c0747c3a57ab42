-- What SELECT lists, keys and clauses say is their text.
use Rattle.std.proofs.Common.{◌≡◌, ◌∙◌, ℕ, zero, suc, ◌+◌, List, [], ◌∷◌, ◌++◌, map, refl, sym, ap, ap₂, append_assoc, arith, add-zero, add-one}
use Rattle.std.specs.Prelude.{codes, length, Option, Some, None}
use Rattle.std.specs.Fmt.{digits}
use Rattle.std.specs.List.{flat_map, range_with_len}
use Rattle.bag_algebra.specs.declared.expr.Expr.{Expr}
use Rattle.bag_algebra.specs.declared.query.AggFn.{AggFn}
use Rattle.bag_algebra.specs.declared.query.AggFn.TheVariants as agg
use Rattle.bag_algebra.specs.declared.query.Aggr.{Aggr}
use Rattle.tree_texts.specs.FormPlans as plan
use Rattle.tree_texts.specs.Forms as f
use Rattle.tree_texts.specs.Forms.{ExprForm, ColumnForm}
use Rattle.query_texts.specs.clauses.Names.{Naming, own}
use Rattle.query_texts.specs.forms.ShownQueries.{own_column, Listed, listed, named_from, aggregated, aggregates_from, argument, arguments, grouped_columns as group_forms}
use Rattle.query_texts.specs.forms.Pieces.{said, expr_said}
use Rattle.query_texts.specs.clauses.ClauseTexts.{comma, item_text, unread_text, column_item, named_items, group_items, argument_text, argument_items, aggregated_text, aggregate_items}
use Rattle.tree_texts.specs.expressions.Words.{name_text, reference_text}
use Rattle.query_texts.proofs.SaidExpressions.{expression_said}

-- ---- items

-- items from a number on
abbrev pub items_said : Naming → ℕ → List (List ℕ) → List ℕ
items_said out number [] = []
items_said out number (text ∷ texts) = item_text out number text ++ items_said out (number + 1) texts

abbrev pub list_said : Listed → List ℕ
list_said list = (expr_said list.first ++ (codes "AS " ++ name_text list.name)) ++ said (plan.items list.more)

pub comma_next : (number : ℕ) → codes ", " ≡ comma (number + 1)
comma_next number = ap comma (sym (add-one number))

named_said : (out : Naming) (forms : List ExprForm) (place number : ℕ) → codes ", " ≡ comma number → place ≡ out.first + number
    → said (plan.items (named_from out.prefix place forms)) ≡ items_said out number (map expr_said forms)
named_said out [] place number behind is = refl
named_said out (form ∷ forms) place number behind is =
    let next : place + 1 ≡ out.first + (number + 1) = omega (arith, is) in
    ap₂ (λ word at. (word ++ (expr_said form ++ (codes "AS " ++ reference_text out.prefix 0 at))) ++ said (plan.items (named_from out.prefix (place + 1) forms))) behind is
    ∙ ap (λ rest. item_text out number (expr_said form) ++ rest) (named_said out forms (place + 1) (number + 1) (comma_next number) next)

pub listed_said : (out : Naming) (nothing : ExprForm) (forms : List ExprForm)
    → list_said (listed out nothing forms) ≡ unread_text out.prefix (expr_said nothing) (length forms) ++ items_said out 0 (map expr_said forms)
listed_said out nothing [] = refl
listed_said out nothing (form ∷ forms) =
    ap₂ (λ at rest. (expr_said form ++ (codes "AS " ++ reference_text out.prefix 0 at)) ++ rest) (sym (add-zero out.first))
    (named_said out forms (out.first + 1) 1 refl refl)

pub items_append : (out : Naming) (number : ℕ) (texts more : List (List ℕ))
    → items_said out number (texts ++ more) ≡ items_said out number texts ++ items_said out (number + length texts) more
items_append out number [] more = ap (λ n. items_said out n more) (sym (add-zero number))
items_append out number (text ∷ texts) more =
    let next : number + 1 + length texts ≡ number + length (text ∷ texts) = omega arith in
    ap (λ rest. item_text out number text ++ rest) (items_append out (number + 1) texts more ∙ ap (λ n. items_said out (number + 1) texts ++ items_said out n more) next)
    ∙ sym (append_assoc (item_text out number text) (items_said out (number + 1) texts) (items_said out (number + length (text ∷ texts)) more))

-- ---- columns

pub one_said : expr_said (f.integer 1) ≡ codes "1 "
unfolding digits
one_said = refl

aggregated_said : (function : AggFn) (column : ColumnForm) → expr_said (aggregated function column) ≡ aggregated_text function (expr_said (f.column column))
aggregated_said agg.CountRows column = refl
aggregated_said agg.Count column = refl
aggregated_said agg.CountDistinct column = refl
aggregated_said agg.Sum column = refl
aggregated_said agg.Min column = refl
aggregated_said agg.Max column = refl

module _ (prefix : List ℕ) where
  pub columns_length : (first count : ℕ) → length (map f.column (map (own_column prefix) (range_with_len first count))) ≡ count
  columns_length first zero = refl
  columns_length first (suc count) = ap suc (columns_length (first + 1) count)

  pub columns_said : (out : Naming) (number count : ℕ)
      → items_said out number (map expr_said (map f.column (map (own_column prefix) (range_with_len (number + 1) count))))
      ≡ flat_map (column_item prefix out) (range_with_len number count)
  columns_said out number zero = refl
  columns_said out number (suc count) = ap (λ rest. column_item prefix out number ++ rest) (columns_said out (number + 1) count)

  pub names_said : (out : Naming) (number : ℕ) (names : List (List ℕ))
      → items_said out number (map expr_said (map (λ name. f.column (f.bare name)) names)) ≡ named_items out number names
  names_said out number [] = refl
  names_said out number (name ∷ names) = ap (λ rest. item_text out number (name_text name) ++ rest) (names_said out (number + 1) names)

  -- ---- groups

  pub groups_said : (number : ℕ) (places : List ℕ) → items_said (own prefix) number (map expr_said (group_forms prefix places)) ≡ group_items prefix number places
  groups_said number [] = refl
  groups_said number (place ∷ places) =
      ap (λ rest. item_text (own prefix) number (reference_text prefix 0 (place + 1)) ++ rest) (groups_said (number + 1) places)

  argument_said : (part : Option Expr) → expr_said (argument prefix part) ≡ argument_text prefix part
  argument_said None = one_said
  argument_said (Some part) = expression_said prefix [] part

  pub arguments_said : (number : ℕ) (aggregates : List Aggr)
      → items_said (own prefix) number (map expr_said (arguments prefix aggregates)) ≡ argument_items prefix number aggregates
  arguments_said number [] = refl
  arguments_said number (aggregate ∷ aggregates) =
      ap₂ (λ text rest. item_text (own prefix) number text ++ rest) (argument_said aggregate.argument) (arguments_said (number + 1) aggregates)

  pub aggregates_said : (out : Naming) (number : ℕ) (aggregates : List Aggr)
      → items_said out number (map expr_said (aggregates_from prefix (number + 1) aggregates)) ≡ aggregate_items prefix out number aggregates
  aggregates_said out number [] = refl
  aggregates_said out number (aggregate ∷ aggregates) =
      ap₂ (λ text rest. item_text out number text ++ rest) (aggregated_said aggregate.function (own_column prefix (number + 1)))
      (aggregates_said out (number + 1) aggregates)
