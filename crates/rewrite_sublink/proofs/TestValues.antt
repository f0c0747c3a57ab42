-- What the test of a candidate is on a row, where the sublink and the query of the matching rows are good.
use Rattle.std.proofs.Common.{◌≡◌, Bool, true, false, cond, List, [], ◌∷◌, map, filter, Option, Some, refl, sym, ap, ◌∙◌}
use Rattle.std.specs.List.{list_any}
use Rattle.null_logic.specs.Comparison.{compare_values}
use Rattle.null_logic.specs.Logic.{is_true, truth_not, value_of}
use Rattle.null_logic.specs.declared.compare.Compare.{Compare}
use Rattle.null_logic.specs.declared.truth.Truth.{Truth}
use Rattle.null_logic.specs.declared.truth.Truth.TheVariants.{True, False, Unknown}
use Rattle.perm_values.specs.Rows.{picked}
use Rattle.perm_values.specs.declared.value.Value.{Value}
use Rattle.perm_values.specs.declared.value.Value.TheVariants.{Null, Boolean}
use Rattle.bag_algebra.specs.Bags.{Row, Bag}
use Rattle.bag_algebra.specs.built.Openings.{value-Case, value-IsTruth}
use Rattle.bag_algebra.specs.Children.{subs_denote}
use Rattle.bag_algebra.specs.Expressions.{value, has_truth, chosen_arm}
use Rattle.bag_algebra.specs.Meaning.{Database, meaning, optional_value, condition_on}
use Rattle.bag_algebra.specs.Means.{cell, comparisons, some_of, all_of, sub_value, chosen, is_some_row}
use Rattle.bag_algebra.specs.Outcome.{Outcome, Good, and_then, mapped, both, both_then}
use Rattle.bag_algebra.specs.declared.expr.Expr.{Expr}
use Rattle.bag_algebra.specs.declared.expr.Expr.TheVariants.{Sub}
use Rattle.bag_algebra.specs.declared.query.Query.{Query}
use Rattle.bag_algebra.specs.declared.query.SubKind.{SubKind}
use Rattle.bag_algebra.specs.declared.query.SubKind.TheVariants.{Exists, Any, All, Scalar}
use Rattle.contribution.proofs.TruthKept.{some_of-is_true, all_of-is_false}
use Rattle.contribution.proofs.ColumnQueries.{meaning-columns}
use Rattle.rewrite_sublink.specs.Candidates.{deciding, test_condition, test_subs, first_column}
use Rattle.query_laws.proofs.SublinkValues.{any-map}

-- whether a value lets its row contribute where it decides: it compares true for ANY, false for ALL
abbrev pub passes_of : SubKind → Value → Value → Bool
passes_of Exists x y = false
passes_of (Any c) x y = is_true (compare_values c x y)
passes_of (All c) x y = is_true (truth_not (compare_values c x y))
passes_of Scalar x y = false

-- ---- tests of lists

pub none-any : {X : Type 0} (xs : List X) → list_any (λ (x : X). false) xs ≡ false
none-any [] = refl
none-any (x ∷ xs) = none-any xs

pub some-pass : (c : Compare) (x : Value) (bag : Bag) → is_true (some_of (comparisons c x bag)) ≡ list_any (λ row. passes_of (Any c) x (cell row)) bag
some-pass c x bag = some_of-is_true (comparisons c x bag) ∙ any-map is_true (λ row. compare_values c x (cell row)) bag

pub some-fail : (c : Compare) (x : Value) (bag : Bag) →
    is_true (truth_not (all_of (comparisons c x bag))) ≡ list_any (λ row. passes_of (All c) x (cell row)) bag
some-fail c x bag = all_of-is_false (comparisons c x bag) ∙ any-map (λ t. is_true (truth_not t)) (λ row. compare_values c x (cell row)) bag

-- the first columns of rows compare as the rows do
firsts-alike : (test : Value → Bool) (found : Bag) → list_any (λ row. test (cell row)) (map (picked (0 ∷ [])) found) ≡ list_any (λ row. test (cell row)) found
firsts-alike test found = any-map (λ row. test (cell row)) (picked (0 ∷ [])) found

-- the rows that contribute
pub chosen-passing : (kind : SubKind) (x : Value) (bag : Bag) →
    chosen kind x bag ≡ cond (list_any (λ row. passes_of kind x (cell row)) bag) (filter (λ row. passes_of kind x (cell row)) bag) bag
chosen-passing Exists x bag = ap (λ d. cond d (filter (λ row. false) bag) bag) (sym (none-any bag))
chosen-passing (Any c) x bag = ap (λ d. cond d (filter (λ row. passes_of (Any c) x (cell row)) bag) bag) (some-pass c x bag)
chosen-passing (All c) x bag = ap (λ d. cond d (filter (λ row. passes_of (All c) x (cell row)) bag) bag) (some-fail c x bag)
chosen-passing Scalar x bag = ap (λ d. cond d (filter (λ row. false) bag) bag) (sym (none-any bag))

-- ---- the value that decides

pub true-value_of : (t : Truth) → has_truth True (value_of t) ≡ is_true t
true-value_of True = refl
true-value_of False = refl
true-value_of Unknown = refl

pub false-value_of : (t : Truth) → has_truth False (value_of t) ≡ is_true (truth_not t)
false-value_of True = refl
false-value_of False = refl
false-value_of Unknown = refl

arm-chosen : (h q b : Bool) → chosen_arm (Good (Boolean h)) (Good (Boolean q)) (Good (Boolean b)) ≡ Good (Boolean (cond h q b))
arm-chosen true q b = refl
arm-chosen false q b = refl

decided-value : (u : Row) (env : List Row) (truth : Truth) (b : Bool) (s q : Value) →
    value (test_condition (Some truth)) u env (Boolean b ∷ s ∷ q ∷ []) ≡ Good (Boolean (cond (has_truth truth s) (has_truth truth q) b))
decided-value u env truth b s q =
    let answers = Boolean b ∷ s ∷ q ∷ [] in
    value-Case u env answers _ (Sub 0)
    ∙ (λ i. chosen_arm (value-IsTruth u env answers truth (Sub 1) i) (value-IsTruth u env answers truth (Sub 2) i) (Good (Boolean b)))
    ∙ arm-chosen (has_truth truth s) (has_truth truth q) b

-- ---- the test

module _ (tested : Option Expr) (s rows : Query) (db : Database) (env : List Row) (z : Row) (x : Value) (vs found : Bag)
    (tested_good : optional_value tested env z ≡ Good x) (found_good : meaning rows db (z ∷ env) ≡ Good found) where
  abbrev pub Tested : SubKind → Type 0
  Tested kind = both_then (optional_value tested env z) (meaning s db (z ∷ env)) (sub_value kind) ≡ sub_value kind x vs

  abbrev pub test_on : SubKind → Outcome Value
  test_on kind =
      condition_on (test_condition (deciding kind)) env (subs_denote (test_subs (deciding kind) (record { kind = kind; tested = tested; query = s }) rows) db env) z

  abbrev pub passed : SubKind → Bool
  passed kind = cond (list_any (λ row. passes_of kind x (cell row)) vs) (list_any (λ row. passes_of kind x (cell row)) found) (is_some_row found)

  over_firsts : (kind : SubKind) → both_then (optional_value tested env z) (meaning (first_column rows) db (z ∷ env)) (sub_value kind) ≡ sub_value kind x (map (picked (0 ∷ [])) found)
  over_firsts kind =
      λ i. both_then (tested_good i) ((meaning-columns rows (0 ∷ []) db (z ∷ env) ∙ ap (mapped (map (picked (0 ∷ [])))) found_good) i) (sub_value kind)

  exists-value : both_then (Good Null) (meaning rows db (z ∷ env)) (sub_value Exists) ≡ Good (Boolean (is_some_row found))
  exists-value = ap (λ o. both_then (Good Null) o (sub_value Exists)) found_good

  undecided : (kind : SubKind) → list_any (λ row. passes_of kind x (cell row)) vs ≡ false → Good (Boolean (is_some_row found)) ≡ Good (Boolean (passed kind))
  undecided kind e = ap (λ d. Good (Boolean (cond d (list_any (λ row. passes_of kind x (cell row)) found) (is_some_row found)))) (sym e)

  existing : and_then (both (λ v vs. v ∷ vs) (both_then (Good Null) (meaning rows db (z ∷ env)) (sub_value Exists)) (Good [])) (value (Sub 0) z env)
      ≡ Good (Boolean (is_some_row found))
  existing = ap (λ o. and_then (both (λ v vs. v ∷ vs) o (Good [])) (value (Sub 0) z env)) exists-value

  deciding-value : (kind : SubKind) (truth : Truth) (a b : Value) → Tested kind → sub_value kind x vs ≡ Good a → sub_value kind x (map (picked (0 ∷ [])) found) ≡ Good b →
      and_then (both (λ v vs. v ∷ vs) (both_then (Good Null) (meaning rows db (z ∷ env)) (sub_value Exists))
      (both (λ v vs. v ∷ vs) (both_then (optional_value tested env z) (meaning s db (z ∷ env)) (sub_value kind))
      (both (λ v vs. v ∷ vs) (both_then (optional_value tested env z) (meaning (first_column rows) db (z ∷ env)) (sub_value kind)) (Good []))))
      (value (test_condition (Some truth)) z env)
      ≡ Good (Boolean (cond (has_truth truth a) (has_truth truth b) (is_some_row found)))
  deciding-value kind truth a b e f g =
      (λ i. and_then (both (λ v vs. v ∷ vs) (exists-value i) (both (λ v vs. v ∷ vs) ((e ∙ f) i) (both (λ v vs. v ∷ vs) ((over_firsts kind ∙ g) i) (Good []))))
      (value (test_condition (Some truth)) z env))
      ∙ decided-value z env truth (is_some_row found) a b

  pub test-value : (kind : SubKind) → Tested kind → test_on kind ≡ Good (Boolean (passed kind))
  test-value Exists e = existing ∙ undecided Exists (none-any vs)
  test-value (Any c) e =
      deciding-value (Any c) True (value_of (some_of (comparisons c x vs))) (value_of (some_of (comparisons c x (map (picked (0 ∷ [])) found)))) e refl refl
      ∙ (λ i. Good (Boolean (cond
      ((true-value_of (some_of (comparisons c x vs)) ∙ some-pass c x vs) i)
      ((true-value_of (some_of (comparisons c x (map (picked (0 ∷ [])) found))) ∙ some-pass c x (map (picked (0 ∷ [])) found) ∙ firsts-alike (passes_of (Any c) x) found) i)
      (is_some_row found))))
  test-value (All c) e =
      deciding-value (All c) False (value_of (all_of (comparisons c x vs))) (value_of (all_of (comparisons c x (map (picked (0 ∷ [])) found)))) e refl refl
      ∙ (λ i. Good (Boolean (cond
      ((false-value_of (all_of (comparisons c x vs)) ∙ some-fail c x vs) i)
      ((false-value_of (all_of (comparisons c x (map (picked (0 ∷ [])) found))) ∙ some-fail c x (map (picked (0 ∷ [])) found) ∙ firsts-alike (passes_of (All c) x) found) i)
      (is_some_row found))))
  test-value Scalar e = existing ∙ undecided Scalar (none-any vs)
