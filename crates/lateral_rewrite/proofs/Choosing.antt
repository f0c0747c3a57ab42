-- The test of the rows that contribute: its value, its form, and that it says what the sublink's value chooses.
use Rattle.std.proofs.Common.{◌≡◌, ℕ, ◌+◌, ◌<◌, ◌≤◌, Bool, true, false, not, ◌||◌, List, [], ◌∷◌, ◌++◌, length, slice_get, Option, Some, None, length-append, refl, sym, ap, ◌∙◌, subst, arith}
use Rattle.std.proofs.lemmas.List.{get_or-append-add}
use Rattle.null_logic.specs.Comparison.{compare_values}
use Rattle.null_logic.specs.Logic.{value_of}
use Rattle.null_logic.specs.declared.compare.Compare.{Compare}
use Rattle.null_logic.specs.declared.operator.Operator.TheVariants as op
use Rattle.null_logic.specs.declared.truth.Truth.TheVariants.{True, False}
use Rattle.perm_values.specs.Rows.{value_at}
use Rattle.perm_values.specs.declared.kind.Kind.{Kind}
use Rattle.perm_values.specs.declared.kind.Kind.TheVariants as kind
use Rattle.perm_values.specs.declared.value.Value.{Value}
use Rattle.perm_values.specs.declared.value.Value.TheVariants.{Null, Boolean}
use Rattle.bag_algebra.specs.Bags.{Row, Bag}
use Rattle.bag_algebra.specs.built.Forms.{number_of_parts-built}
use Rattle.bag_algebra.specs.built.Openings.{IsTruth-is, value-IsTruth, value-Op}
use Rattle.bag_algebra.specs.Expressions.{value, has_truth, operate}
use Rattle.bag_algebra.specs.Kinds.{kind_in}
use Rattle.bag_algebra.specs.Meaning.{condition_on}
use Rattle.bag_algebra.specs.Means.{cell, comparisons, some_of, all_of, sub_value, no_subs}
use Rattle.bag_algebra.specs.Outcome.{Good, and_then, mapped, both}
use Rattle.bag_algebra.specs.WellFormed.{HasKind, TestedForm, sub_form, sub_kind}
use Rattle.bag_algebra.specs.declared.expr.Expr.{Expr}
use Rattle.bag_algebra.specs.declared.expr.Expr.TheVariants.{Col, Op}
use Rattle.bag_algebra.specs.declared.query.SubKind.{SubKind}
use Rattle.bag_algebra.specs.declared.query.SubKind.TheVariants.{Exists, Any, All, Scalar}
use Rattle.contribution.proofs.ColumnQueries.{kind_there}
use Rattle.contribution.proofs.PartForms.{no_parts-have, more_parts-have}
use Rattle.rewrite_sublink.proofs.TestValues.{passes_of, true-value_of, false-value_of, some-pass, some-fail}
use Rattle.lateral_rewrite.proofs.RightRows.{decided}
use Rattle.lateral_rewrite.specs.Dependent.{has_value, undecided, compared, contributes}
use Rattle.lateral_rewrite.specs.declared.choices.Choice.{Choice}

-- ---- how a sublink chooses

-- the sublink's value is a truth; it is the one that chooses where some row passes, and a row passes where its comparison is
pub record Decides (of_kind : SubKind) (choice : Choice) : Type 0 where
  pub told : (x : Value) (vs : Bag) → (v : Value) × (sub_value of_kind x vs ≡ Good v) × (has_truth choice.truth v ≡ decided of_kind x vs)
  pub passes : (x y : Value) → has_truth choice.truth (value_of (compare_values choice.compare x y)) ≡ passes_of of_kind x y
  pub truth : (kinds : List Kind) → sub_kind of_kind kinds ≡ kind.Boolean

pub any-decides : (c : Compare) → Decides (Any c) (record { truth = True; compare = c })
any-decides c = record {
  told = λ x vs. (value_of (some_of (comparisons c x vs)), refl, true-value_of (some_of (comparisons c x vs)) ∙ some-pass c x vs);
  passes = λ x y. true-value_of (compare_values c x y);
  truth = λ kinds. refl;
}

pub all-decides : (c : Compare) → Decides (All c) (record { truth = False; compare = c })
all-decides c = record {
  told = λ x vs. (value_of (all_of (comparisons c x vs)), refl, false-value_of (all_of (comparisons c x vs)) ∙ some-fail c x vs);
  passes = λ x y. false-value_of (compare_values c x y);
  truth = λ kinds. refl;
}

-- what is compared has the kind of the query's one column
pub tested_form : (of_kind : SubKind) (tested : Option Expr) (operand : Expr) (scopes : List (List Kind)) (kinds : List Kind) → sub_form of_kind tested scopes kinds →
    tested ≡ Some operand → TestedForm kinds (HasKind scopes [] operand)
tested_form of_kind None operand scopes kinds f e = absurd (cc e)
tested_form Exists (Some tested) operand scopes kinds f e = absurd f
tested_form (Any c) (Some tested) operand scopes kinds f e = subst (λ part. TestedForm kinds (HasKind scopes [] part)) (same_part e) f where
  same_part : {e f : Expr} → Some e ≡ Some f → e ≡ f
  same_part e = cc
tested_form (All c) (Some tested) operand scopes kinds f e = subst (λ part. TestedForm kinds (HasKind scopes [] part)) (same_part e) f where
  same_part : {e f : Expr} → Some e ≡ Some f → e ≡ f
  same_part e = cc
tested_form Scalar (Some tested) operand scopes kinds f e = absurd f

-- ---- the value of the test

not-operate : (b : Bool) → operate op.Not (Boolean b ∷ []) ≡ Good (Boolean (not b))
not-operate true = refl
not-operate false = refl

or-operate : (a b : Bool) → operate op.Or (Boolean a ∷ Boolean b ∷ []) ≡ Good (Boolean (a || b))
or-operate true true = refl
or-operate true false = refl
or-operate false true = refl
or-operate false false = refl

module _ (choice : Choice) (place : ℕ) (z : Row) (env : List Row) (row : Row) where
  abbrev has : Value → Bool
  has v = has_truth choice.truth v

  undecided-value : value (undecided choice place) row (z ∷ env) [] ≡ Good (Boolean (not (has (value_at z place))))
  undecided-value =
      value-Op row (z ∷ env) [] op.Not (has_value choice (Col 1 place) ∷ [])
      ∙ (λ i. and_then (both (λ v vs. v ∷ vs) (value-IsTruth row (z ∷ env) [] choice.truth (Col 1 place) i) (Good [])) (operate op.Not))
      ∙ not-operate (has (value_at z place))

  pub compared-value : value (compared choice place) row (z ∷ env) [] ≡ Good (Boolean (has (value_of (compare_values choice.compare (value_at z place) (cell row)))))
  compared-value =
      let parts = Col 1 place ∷ Col 0 0 ∷ [] in
      value-IsTruth row (z ∷ env) [] choice.truth (Op (op.Compare choice.compare) parts)
      ∙ ap (mapped (λ v. Boolean (has v))) (value-Op row (z ∷ env) [] (op.Compare choice.compare) parts)

module _ (choice : Choice) (place : ℕ) (z : Row) (env : List Row) (row : Row) where
  abbrev pub passing : Bool
  passing = not (has_truth choice.truth (value_at z place)) || has_truth choice.truth (value_of (compare_values choice.compare (value_at z (place + 1)) (cell row)))

  pub contributes-value : condition_on (contributes choice place) (z ∷ env) no_subs row ≡ Good (Boolean passing)
  contributes-value =
      value-Op row (z ∷ env) [] op.Or (undecided choice place ∷ compared choice (place + 1) ∷ [])
      ∙ (λ i. and_then (both (λ v vs. v ∷ vs) (undecided-value choice place z env row i)
      (both (λ v vs. v ∷ vs) (compared-value choice (place + 1) z env row i) (Good []))) (operate op.Or))
      ∙ or-operate (not (has_truth choice.truth (value_at z place))) (has_truth choice.truth (value_of (compare_values choice.compare (value_at z (place + 1)) (cell row))))

-- the value and the left operand stand behind so many columns
module _ (b : Row) (v x : Value) (place : ℕ) (place_is : length b ≡ place) where
  pub value-there : value_at (b ++ (v ∷ x ∷ [])) place ≡ v
  value-there =
      let at : place ≡ length b + 0 = omega (arith, place_is) in
      ap (value_at (b ++ (v ∷ x ∷ []))) at ∙ get_or-append-add b (v ∷ x ∷ []) 0 Null

  pub operand-there : value_at (b ++ (v ∷ x ∷ [])) (place + 1) ≡ x
  operand-there =
      ap (λ n. value_at (b ++ (v ∷ x ∷ [])) (n + 1)) (sym place_is) ∙ get_or-append-add b (v ∷ x ∷ []) 1 Null

-- ---- the form of the test

module _ (scopes : List (List Kind)) (choice : Choice) where
  truth-formed : (part : Expr) → HasKind scopes [] part kind.Boolean → HasKind scopes [] (has_value choice part) kind.Boolean
  truth-formed part h = subst (λ e. HasKind scopes [] e kind.Boolean) (sym (IsTruth-is choice.truth part)) (record { parts = h; gives = refl })

  undecided-formed : (place : ℕ) → HasKind scopes [] (Col 1 place) kind.Boolean → HasKind scopes [] (undecided choice place) kind.Boolean
  undecided-formed place h = record {
    number = number_of_parts-built (has_value choice (Col 1 place) ∷ []);
    parts = more_parts-have scopes [] kind.Boolean (has_value choice (Col 1 place)) [] (truth-formed (Col 1 place) h) (no_parts-have scopes [] kind.Boolean);
    gives = refl;
  }

  pub compared-formed : (place : ℕ) (shared : Kind) → HasKind scopes [] (Col 1 place) shared → HasKind scopes [] (Col 0 0) shared → HasKind scopes [] (compared choice place) kind.Boolean
  compared-formed place shared h g =
      truth-formed (Op (op.Compare choice.compare) (Col 1 place ∷ Col 0 0 ∷ [])) (record {
        number = number_of_parts-built (Col 1 place ∷ Col 0 0 ∷ []);
        parts = record {
          shared = shared;
          parts = more_parts-have scopes [] shared (Col 1 place) (Col 0 0 ∷ []) h (more_parts-have scopes [] shared (Col 0 0) [] g (no_parts-have scopes [] shared));
        };
        gives = refl;
      })

  pub contributes-formed : (place : ℕ) (shared : Kind) → HasKind scopes [] (Col 1 place) kind.Boolean → HasKind scopes [] (Col 1 (place + 1)) shared →
      HasKind scopes [] (Col 0 0) shared → HasKind scopes [] (contributes choice place) kind.Boolean
  contributes-formed place shared h g k =
      let parts = undecided choice place ∷ compared choice (place + 1) ∷ [] in
      record {
        number = subst (λ n. 2 ≤ n) (sym (number_of_parts-built parts)) (omega arith);
        parts = more_parts-have scopes [] kind.Boolean (undecided choice place) (compared choice (place + 1) ∷ []) (undecided-formed place h)
            (more_parts-have scopes [] kind.Boolean (compared choice (place + 1)) [] (compared-formed (place + 1) shared g k) (no_parts-have scopes [] kind.Boolean));
        gives = refl;
      }

module _ (first : List Kind) (truth shared : Kind) where
  two-there : (at : ℕ) → at < 2 → slice_get (first ++ (truth ∷ shared ∷ [])) (length first + at) ≡ Some (kind_in (truth ∷ shared ∷ []) at)
  two-there at within =
      kind_there (first ++ (truth ∷ shared ∷ [])) (length first + at) (omega (arith, within, length-append first (truth ∷ shared ∷ [])))
      ∙ ap Some (get_or-append-add first (truth ∷ shared ∷ []) at kind.Text)

  pub truth-kind : slice_get (first ++ (truth ∷ shared ∷ [])) (length first) ≡ Some truth
  truth-kind =
      let at : length first ≡ length first + 0 = omega arith in
      ap (slice_get (first ++ (truth ∷ shared ∷ []))) at ∙ two-there 0 (omega arith)

  pub operand-kind : slice_get (first ++ (truth ∷ shared ∷ [])) (length first + 1) ≡ Some shared
  operand-kind = two-there 1 (omega arith)
