-- What a SELECT list is of no item, and of a first item and others.
use Rattle.std.proofs.Common.{◌≡◌, ℕ, ◌<◌, ◌≤◌, List, [], ◌∷◌, ◌++◌, length, get_or, drop, refl, ap, arith}
use Rattle.bag_algebra.specs.declared.expr.Item.{Item}
use Rattle.tree_texts.specs.expressions.ExpressionTexts.{expr_bytes}
use Rattle.query_texts.specs.clauses.Names.{Naming}
use Rattle.query_texts.specs.clauses.ClauseTexts.{as_text, beside_text, expr_items, projected_text}

module _ (prefix : List ℕ) (out : Naming) (subs unused : List (List ℕ)) where
  pub projected_none : (items : List Item) → length items < 1
      → projected_text prefix out [] unused [] ≡ projected_text prefix out subs unused items
  projected_none [] none = refl
  projected_none (item ∷ items) none = absurd (omega (arith, none))

  pub projected_some : (items : List Item) (item : Item) → 1 ≤ length items → item ≡ get_or items 0 item
      → beside_text item.kind unused (expr_bytes prefix subs item.expr) ++ (as_text out 0 ++ expr_items prefix out subs 1 (drop 1 items))
      ≡ projected_text prefix out subs unused items
  projected_some [] item some is = absurd (omega (arith, some))
  projected_some (first ∷ items) item some is =
      ap (λ (it : Item). beside_text it.kind unused (expr_bytes prefix subs it.expr) ++ (as_text out 0 ++ expr_items prefix out subs 1 items)) is
