-- The rows that contribute to a sublink give it the value that all rows give it.
use Rattle.std.proofs.Common.{◌≡◌, inl, inr, Bool, true, false, cond, ◌||◌, List, [], ◌∷◌, map, filter, refl, sym, ap, ◌∙◌}
use Rattle.std.specs.List.{list_any}
use mathlib.Core.Bool.{true≢false}
use Rattle.null_logic.specs.Comparison.{compare_values}
use Rattle.null_logic.specs.Logic.{is_true, truth_not, value_of}
use Rattle.null_logic.specs.declared.compare.Compare.{Compare}
use Rattle.null_logic.specs.declared.truth.Truth.{Truth}
use Rattle.null_logic.specs.declared.truth.Truth.TheVariants.{True, False, Unknown}
use Rattle.perm_values.specs.Values.{is_null}
use Rattle.perm_values.specs.declared.value.Value.{Value}
use Rattle.bag_algebra.proofs.Members.{IsIn, in-filter, from-filter, one_of}
use Rattle.bag_algebra.specs.Bags.{Row, Bag}
use Rattle.bag_algebra.specs.Means.{some_of, all_of, comparisons, cell, chosen, sub_value}
use Rattle.bag_algebra.specs.Outcome.{Good}
use Rattle.bag_algebra.specs.declared.query.SubKind.{SubKind}
use Rattle.bag_algebra.specs.declared.query.SubKind.TheVariants.{Exists, Any, All, Scalar}

-- ---- what makes some and all of several truths

decided_some : (b c : Bool) → is_true (cond b True (cond c Unknown False)) ≡ b
decided_some true c = refl
decided_some false true = refl
decided_some false false = refl

pub some_of-is_true : (truths : List Truth) → is_true (some_of truths) ≡ list_any is_true truths
some_of-is_true truths = decided_some (list_any is_true truths) (list_any (λ t. is_null (value_of t)) truths)

decided_all : (b c : Bool) → is_true (truth_not (cond b False (cond c Unknown True))) ≡ b
decided_all true c = refl
decided_all false true = refl
decided_all false false = refl

pub all_of-is_false : (truths : List Truth) → is_true (truth_not (all_of truths)) ≡ list_any (λ t. is_true (truth_not t)) truths
all_of-is_false truths = decided_all (list_any (λ t. is_true (truth_not t)) truths) (list_any (λ t. is_null (value_of t)) truths)

some_of-true : (truths : List Truth) → list_any is_true truths ≡ true → some_of truths ≡ True
some_of-true truths e = rw e refl

all_of-false : (truths : List Truth) → list_any (λ t. is_true (truth_not t)) truths ≡ true → all_of truths ≡ False
all_of-false truths e = rw e refl

-- ---- rows of which some test is true

module _ (test : Truth → Bool) (compared : Row → Truth) where
  abbrev wanted : Row → Bool
  wanted row = test (compared row)

  pub some_wanted : (bag : Bag) → list_any test (map compared bag) ≡ true → (v : Row) × IsIn v bag × (wanted v ≡ true)
  some_wanted [] e = absurd (true≢false (sym e))
  some_wanted (row ∷ rows) e = elim (one_of (wanted row) (list_any test (map compared rows)) e) [
    | inl here ↦ (row, inl refl, here)
    | inr later ↦ let found = some_wanted rows later in (found.0, inr found.1, found.2)
  ]

  after_first : (row : Row) (rows : Bag) (b : Bool) → wanted row ≡ b → list_any test (map compared rows) ≡ list_any test (map compared (filter wanted rows)) →
      (b || list_any test (map compared rows)) ≡ list_any test (map compared (cond b (row ∷ filter wanted rows) (filter wanted rows)))
  after_first row rows true e rest = rw e refl
  after_first row rows false e rest = rest

  -- the wanted rows decide
  pub wanted_decide : (bag : Bag) → list_any test (map compared bag) ≡ list_any test (map compared (filter wanted bag))
  wanted_decide [] = refl
  wanted_decide (row ∷ rows) = after_first row rows (wanted row) refl (wanted_decide rows)

-- ---- the rows that contribute

any_kept : (c : Compare) (x : Value) (bag : Bag) (b : Bool) → is_true (some_of (comparisons c x bag)) ≡ b →
    some_of (comparisons c x (cond b (filter (λ row. is_true (compare_values c x (cell row))) bag) bag)) ≡ some_of (comparisons c x bag)
any_kept c x bag true e =
    let compared : Row → Truth = λ row. compare_values c x (cell row) in
    let some = sym (some_of-is_true (comparisons c x bag)) ∙ e in
    some_of-true (map compared (filter (λ row. is_true (compared row)) bag)) (sym (wanted_decide is_true compared bag) ∙ some)
    ∙ sym (some_of-true (comparisons c x bag) some)
any_kept c x bag false e = refl

all_kept : (c : Compare) (x : Value) (bag : Bag) (b : Bool) → is_true (truth_not (all_of (comparisons c x bag))) ≡ b →
    all_of (comparisons c x (cond b (filter (λ row. is_true (truth_not (compare_values c x (cell row)))) bag) bag)) ≡ all_of (comparisons c x bag)
all_kept c x bag true e =
    let compared : Row → Truth = λ row. compare_values c x (cell row) in
    let test : Truth → Bool = λ t. is_true (truth_not t) in
    let some = sym (all_of-is_false (comparisons c x bag)) ∙ e in
    all_of-false (map compared (filter (λ row. test (compared row)) bag)) (sym (wanted_decide test compared bag) ∙ some)
    ∙ sym (all_of-false (comparisons c x bag) some)
all_kept c x bag false e = refl

pub chosen-keeps_value : (kind : SubKind) (x : Value) (bag : Bag) → sub_value kind x (chosen kind x bag) ≡ sub_value kind x bag
chosen-keeps_value Exists x bag = refl
chosen-keeps_value (Any c) x bag = ap (λ t. Good (value_of t)) (any_kept c x bag (is_true (some_of (comparisons c x bag))) refl)
chosen-keeps_value (All c) x bag = ap (λ t. Good (value_of t)) (all_kept c x bag (is_true (truth_not (all_of (comparisons c x bag)))) refl)
chosen-keeps_value Scalar x bag = refl

from-choice : (v : Row) (test : Row → Bool) (bag : Bag) (b : Bool) → IsIn v (cond b (filter test bag) bag) → IsIn v bag
from-choice v test bag true h = (from-filter test v bag h).0
from-choice v test bag false h = h

-- the chosen rows are rows of the sublink's query
pub from-chosen : (kind : SubKind) (x : Value) (bag : Bag) (v : Row) → IsIn v (chosen kind x bag) → IsIn v bag
from-chosen Exists x bag v h = h
from-chosen (Any c) x bag v h = from-choice v _ bag (is_true (some_of (comparisons c x bag))) h
from-chosen (All c) x bag v h = from-choice v _ bag (is_true (truth_not (all_of (comparisons c x bag)))) h
from-chosen Scalar x bag v h = h

some_choice : (test : Row → Bool) (row : Row) (rows : Bag) (b : Bool) →
    (b ≡ true → (v : Row) × IsIn v (row ∷ rows) × (test v ≡ true)) → (v : Row) × IsIn v (cond b (filter test (row ∷ rows)) (row ∷ rows))
some_choice test row rows true found = let f = found refl in (f.0, in-filter test f.0 (row ∷ rows) f.1 f.2)
some_choice test row rows false found = (row, inl refl)

-- where the sublink's query has a row, one is chosen
pub some_chosen : (kind : SubKind) (x : Value) (row : Row) (rows : Bag) → (v : Row) × IsIn v (chosen kind x (row ∷ rows))
some_chosen Exists x row rows = (row, inl refl)
some_chosen (Any c) x row rows =
    some_choice _ row rows (is_true (some_of (comparisons c x (row ∷ rows))))
    (λ e. some_wanted is_true (λ u. compare_values c x (cell u)) (row ∷ rows) (sym (some_of-is_true (comparisons c x (row ∷ rows))) ∙ e))
some_chosen (All c) x row rows =
    some_choice _ row rows (is_true (truth_not (all_of (comparisons c x (row ∷ rows)))))
    (λ e. some_wanted (λ t. is_true (truth_not t)) (λ u. compare_values c x (cell u)) (row ∷ rows) (sym (all_of-is_false (comparisons c x (row ∷ rows))) ∙ e))
some_chosen Scalar x row rows = (row, inl refl)
