-- Each variant of an expression is placed where its parts are.
use Rattle.std.proofs.Common.{◌≡◌, ℕ, zero, suc, ◌≤◌, ◌-◌, ◌<◌, Bool, true, not, ◌&&◌, List, [], ◌∷◌, length, Some, refl, sym, ap, ◌∙◌, subst, arith, get_or}
use Rattle.std.proofs.lemmas.Option.{none-some}
use Rattle.std.specs.Prelude.{slice_get}
use mathlib.Core.Bool.{beq}
use Rattle.null_logic.specs.declared.arith.Arith.{Arith}
use Rattle.null_logic.specs.declared.operator.Operator.{Operator}
use Rattle.null_logic.specs.declared.truth.Truth.{Truth}
use Rattle.perm_values.specs.Rows.{value_at}
use Rattle.perm_values.specs.Values.{same_value, is_null}
use Rattle.perm_values.specs.declared.kind.Kind.{Kind}
use Rattle.perm_values.specs.declared.kind.Kind.TheVariants.{Integer, Text, Boolean}
use Rattle.perm_values.specs.declared.value.Value.{Value}
use Rattle.perm_values.specs.declared.value.Value.TheVariants as value
use Rattle.bag_algebra.proofs.Forms.{alike-kept, op_form-kept}
use Rattle.bag_algebra.proofs.Outcomes.{both-is, same_good}
use Rattle.bag_algebra.proofs.Truths.{left-true, right-true}
use Rattle.bag_algebra.specs.Bags.{Row}
use Rattle.bag_algebra.specs.built.Openings.{row_of_parts, row_of_steps, row_of_arms, shape_of_steps, shape_of_arms, Chain-is, Case-is, IsNull-is, IsTruth-is, Same-is}
use Rattle.bag_algebra.specs.Expressions.{value, values, step_values, arm_value, Step, operate, chain, has_truth, chosen_arm}
use Rattle.bag_algebra.specs.FaultFree.{may_fault, faultless, items_faultless, parts_faultless, arms_faultless}
use Rattle.bag_algebra.specs.Kinds.{item_kinds}
use Rattle.bag_algebra.specs.Meaning.{items_on}
use Rattle.bag_algebra.specs.Means.{no_subs}
use Rattle.bag_algebra.specs.Outcome.{Outcome, Good, and_then, mapped, both, both_then}
use Rattle.bag_algebra.specs.built.Patterns.{ChainOf, CaseOf, IsNullOf, IsTruthOf, SameOf}
use Rattle.bag_algebra.specs.WellFormed.{HasKind, PartsHave, StepsHave, ArmsHave, ItemsForm, op_form, is_additive, steps_are, number_of_parts, number_of_steps, number_of_arms}
use Rattle.bag_algebra.specs.declared.expr.Arm.{Arm}
use Rattle.bag_algebra.specs.declared.expr.ChainStep.{ChainStep}
use Rattle.bag_algebra.specs.declared.expr.Expr.{Expr}
use Rattle.bag_algebra.specs.declared.expr.Expr.TheBlock.{shape-the_row-Expr-0, hidden-the_row-Expr-0, shape-the_row-ChainStep-2, hidden-the_row-ChainStep-2, shape-the_row-Arm-3, hidden-the_row-Arm-3}
use Rattle.bag_algebra.specs.declared.expr.Expr.TheVariants.{Col, Lit, Op, Chain, Case, Sub, IsNull, IsTruth, Same}
use Rattle.bag_algebra.specs.declared.expr.Item.{Item}
use Rattle.query_laws.specs.spines.PlacedColumns.{IsPlaced, PartsPlaced, StepsPlaced, ArmsPlaced}

-- ---- columns

pub beyond-items : (items : List Item) (x : Row) (env : List Row) (t : Row) (place : ℕ) → items_on items env no_subs x ≡ Good t → length items ≤ place →
    value.Null ≡ value_at t place
beyond-items [] x env t place g far = ap (λ row. value_at row place) (same_good [] t g)
beyond-items (item ∷ items) x env t zero g far = absurd (omega (arith, far))
beyond-items (item ∷ items) x env t (suc place) g far =
    let parts = both-is (λ v vs. v ∷ vs) (value item.expr x env []) (items_on items env no_subs x) t g in
    beyond-items items x env parts.1 place parts.3 (omega (arith, far)) ∙ ap (λ row. value_at row (suc place)) parts.4

value-there : (items : List Item) (x : Row) (env : List Row) (t : Row) (place : ℕ) (item : Item) → items_on items env no_subs x ≡ Good t → place < length items →
    value (get_or items place item).expr x env [] ≡ Good (value_at t place)
value-there [] x env t place item g within = absurd (omega (arith, within))
value-there (first ∷ items) x env t zero item g within =
    let parts = both-is (λ v vs. v ∷ vs) (value first.expr x env []) (items_on items env no_subs x) t g in
    parts.2 ∙ ap (λ row. Good (value_at row 0)) parts.4
value-there (first ∷ items) x env t (suc place) item g within =
    let parts = both-is (λ v vs. v ∷ vs) (value first.expr x env []) (items_on items env no_subs x) t g in
    value-there items x env parts.1 place item parts.3 (omega (arith, within)) ∙ ap (λ row. Good (value_at row (suc place))) parts.4

pub kinds-beyond : (items : List Item) (place : ℕ) (kind : Kind) → length items ≤ place → slice_get (item_kinds items) place ≡ Some kind → ⊥
kinds-beyond [] place kind far e = none-some kind e
kinds-beyond (item ∷ items) zero kind far e = absurd (omega (arith, far))
kinds-beyond (item ∷ items) (suc place) kind far e = kinds-beyond items place kind (omega (arith, far)) e

kind-there : (items : List Item) (place : ℕ) (item : Item) (kind : Kind) → place < length items → slice_get (item_kinds items) place ≡ Some kind →
    (get_or items place item).kind ≡ kind
kind-there [] place item kind within e = absurd (omega (arith, within))
kind-there (first ∷ items) zero item kind within e = cc
kind-there (first ∷ items) (suc place) item kind within e = kind-there items place item kind (omega (arith, within)) e

faultless-there : (items : List Item) (place : ℕ) (item : Item) → place < length items → items_faultless items ≡ true → faultless (get_or items place item).expr ≡ true
faultless-there [] place item within w = absurd (omega (arith, within))
faultless-there (first ∷ items) zero item within w = left-true (faultless first.expr) (items_faultless items) w
faultless-there (first ∷ items) (suc place) item within w =
    faultless-there items place item (omega (arith, within)) (right-true (faultless first.expr) (items_faultless items) w)

module _ (items : List Item) where
  pub placed-none : (place : ℕ) → length items ≤ place → IsPlaced items (Col 0 place) (Lit value.Null Text)
  placed-none place far = record {
    value = λ x env t g. ap Good (beyond-items items x env t place g far);
    kind = λ own outer kind form h. absurd (kinds-beyond items place kind far h);
    faultless = λ w. refl;
  }

  -- an own column is the item at its place
  pub placed-own : (place : ℕ) (item : Item) → place < length items → item ≡ get_or items place item → IsPlaced items (Col 0 place) item.expr
  placed-own place item within is = record {
    value = λ x env t g. ap (λ (item : Item). value item.expr x env []) is ∙ value-there items x env t place item g within;
    kind = λ own outer kind form h.
        let there : HasKind (own ∷ outer) [] (get_or items place item).expr (get_or items place item).kind = form place item within in
        subst (HasKind (own ∷ outer) [] item.expr) (kind-there items place item kind within h)
        (subst (λ (other : Item). HasKind (own ∷ outer) [] other.expr (get_or items place item).kind) (sym is) there);
    faultless = λ w. ap (λ (item : Item). faultless item.expr) is ∙ faultless-there items place item within w;
  }

  -- a column of an outer row is one level nearer
  pub placed-outer : (level place : ℕ) → 0 < level → IsPlaced items (Col level place) (Col (level - 1) place)
  placed-outer zero place above = absurd (omega (arith, above))
  placed-outer (suc level) place above =
      let nearer : level ≡ suc level - 1 = omega arith in
      subst (λ l. IsPlaced items (Col (suc level) place) (Col l place)) nearer (record {
        value = λ x env t g. refl;
        kind = λ own outer kind form h. h;
        faultless = λ w. refl;
      })

  pub placed-Lit : (v : Value) (own : Kind) → IsPlaced items (Lit v own) (Lit v own)
  placed-Lit v own = record { value = λ x env t g. refl; kind = λ kinds outer kind form h. h; faultless = λ w. refl }

  pub placed-Sub : (number : ℕ) → IsPlaced items (Sub number) (Sub number)
  placed-Sub number = record { value = λ x env t g. refl; kind = λ kinds outer kind form h. h; faultless = λ w. refl }

-- ---- variants without lists

module _ (items : List Item) where
  pub placed-IsNull : (e p : Expr) → IsPlaced items e p → IsPlaced items (IsNull e) (IsNull p)
  placed-IsNull e p m =
      subst (IsPlaced items (IsNull e)) (sym (IsNull-is p)) (subst (λ x. IsPlaced items x (IsNullOf p)) (sym (IsNull-is e)) (record {
        value = λ x env t g. ap (mapped (λ v. value.Boolean (is_null v))) (m.value x env t g);
        kind = λ own outer kind form h. record { parts = alike-kept (λ l g. m.kind own outer l form g) h.parts; gives = h.gives };
        faultless = λ w. m.faultless w;
      }))

  pub placed-IsTruth : (truth : Truth) (e p : Expr) → IsPlaced items e p → IsPlaced items (IsTruth truth e) (IsTruth truth p)
  placed-IsTruth truth e p m =
      subst (IsPlaced items (IsTruth truth e)) (sym (IsTruth-is truth p)) (subst (λ x. IsPlaced items x (IsTruthOf truth p)) (sym (IsTruth-is truth e)) (record {
        value = λ x env t g. ap (mapped (λ v. value.Boolean (has_truth truth v))) (m.value x env t g);
        kind = λ own outer kind form h. record { parts = m.kind own outer Boolean form h.parts; gives = h.gives };
        faultless = λ w. m.faultless w;
      }))

  pub placed-Same : (e f p r : Expr) → IsPlaced items e p → IsPlaced items f r → IsPlaced items (Same e f) (Same p r)
  placed-Same e f p r m n =
      subst (IsPlaced items (Same e f)) (sym (Same-is p r)) (subst (λ x. IsPlaced items x (SameOf p r)) (sym (Same-is e f)) (record {
        value = λ x env t g i. both (λ v w. value.Boolean (same_value v w)) (m.value x env t g i) (n.value x env t g i);
        kind = λ own outer kind form h. record {
          parts = alike-kept (λ l g. (m.kind own outer l form g.0, n.kind own outer l form g.1)) h.parts;
          gives = h.gives;
        };
        faultless = λ w i. m.faultless w i && n.faultless w i;
      }))

-- ---- parts of an operator

module _ (items : List Item) where
  parts-number : (es ps : List Expr) → PartsPlaced items es ps → number_of_parts (row_of_parts es) ≡ number_of_parts (row_of_parts ps)
  unfolding shape-the_row-Expr-0 hidden-the_row-Expr-0 package.denote.Hole.Carrier.hidden
  parts-number [] [] m = refl
  parts-number [] (p ∷ ps) m = absurd m
  parts-number (e ∷ es) [] m = absurd m
  parts-number (e ∷ es) (p ∷ ps) m = ap suc (parts-number es ps m.1)

  parts-values : (x : Row) (env : List Row) (t : Row) (g : items_on items env no_subs x ≡ Good t) (es ps : List Expr) → PartsPlaced items es ps →
      values (row_of_parts ps) x env [] ≡ values (row_of_parts es) t (x ∷ env) []
  unfolding shape-the_row-Expr-0 hidden-the_row-Expr-0 package.denote.Hole.Carrier.hidden
  parts-values x env t g [] [] m = refl
  parts-values x env t g [] (p ∷ ps) m = absurd m
  parts-values x env t g (e ∷ es) [] m = absurd m
  parts-values x env t g (e ∷ es) (p ∷ ps) m = λ i. both (λ v vs. v ∷ vs) (m.0.value x env t g i) (parts-values x env t g es ps m.1 i)

  parts-faultless : items_faultless items ≡ true → (es ps : List Expr) → PartsPlaced items es ps → parts_faultless (row_of_parts ps) ≡ parts_faultless (row_of_parts es)
  unfolding shape-the_row-Expr-0 hidden-the_row-Expr-0 package.denote.Hole.Carrier.hidden
  parts-faultless w [] [] m = refl
  parts-faultless w [] (p ∷ ps) m = absurd m
  parts-faultless w (e ∷ es) [] m = absurd m
  parts-faultless w (e ∷ es) (p ∷ ps) m = λ i. m.0.faultless w i && parts-faultless w es ps m.1 i

  module _ (own : List Kind) (outer : List (List Kind)) (form : ItemsForm (own ∷ outer) [] items) where
    parts-have : (kind : Kind) (es ps : List Expr) → PartsPlaced items es ps →
        PartsHave (item_kinds items ∷ own ∷ outer) [] (row_of_parts es) kind → PartsHave (own ∷ outer) [] (row_of_parts ps) kind
    unfolding shape-the_row-Expr-0 hidden-the_row-Expr-0 package.denote.Hole.Carrier.hidden
    parts-have kind [] [] m h = tt
    parts-have kind [] (p ∷ ps) m h = absurd m
    parts-have kind (e ∷ es) [] m h = absurd m
    parts-have kind (e ∷ es) (p ∷ ps) m h = (m.0.kind own outer kind form h.0, parts-have kind es ps m.1 h.1)

  pub placed-Op : (o : Operator) (es ps : List Expr) → PartsPlaced items es ps → IsPlaced items (Op o es) (Op o ps)
  placed-Op o es ps m = record {
    value = λ x env t g. ap (λ vs. and_then vs (operate o)) (parts-values x env t g es ps m);
    kind = λ own outer kind form h.
        subst (λ n. op_form o n (PartsHave (own ∷ outer) [] (row_of_parts ps)) kind) (parts-number es ps m)
        (op_form-kept (λ k g. parts-have own outer form k es ps m g) o (number_of_parts (row_of_parts es)) kind h);
    faultless = λ w. ap (λ b. not (may_fault o) && b) (parts-faultless w es ps m);
  }

-- ---- steps of a chain

module _ (items : List Item) where
  steps-number : (es ps : List ChainStep) → StepsPlaced items es ps → number_of_steps (row_of_steps es) ≡ number_of_steps (row_of_steps ps)
  unfolding shape-the_row-ChainStep-2 hidden-the_row-ChainStep-2 package.denote.Hole.Carrier.hidden
  steps-number [] [] m = refl
  steps-number [] (p ∷ ps) m = absurd m
  steps-number (e ∷ es) [] m = absurd m
  steps-number (e ∷ es) (p ∷ ps) m = ap suc (steps-number es ps m.1)

  steps-values : (x : Row) (env : List Row) (t : Row) (g : items_on items env no_subs x ≡ Good t) (es ps : List ChainStep) → StepsPlaced items es ps →
      step_values (row_of_steps ps) x env [] ≡ step_values (row_of_steps es) t (x ∷ env) []
  unfolding shape-the_row-ChainStep-2 hidden-the_row-ChainStep-2 package.denote.Hole.Carrier.hidden
  steps-values x env t g [] [] m = refl
  steps-values x env t g [] (p ∷ ps) m = absurd m
  steps-values x env t g (e ∷ es) [] m = absurd m
  steps-values x env t g (e ∷ es) (p ∷ ps) m =
      let first : Arith → Value → List Step → List Step = λ o v ss. record { operation = o; operand = v } ∷ ss in
      λ i. both (first (m.0.op i)) (m.0.part.value x env t g i) (steps-values x env t g es ps m.1 i)

  steps-level : (additive : Bool) (es ps : List ChainStep) → StepsPlaced items es ps → steps_are (row_of_steps ps) additive ≡ steps_are (row_of_steps es) additive
  unfolding shape-the_row-ChainStep-2 hidden-the_row-ChainStep-2 package.denote.Hole.Carrier.hidden
  steps-level additive [] [] m = refl
  steps-level additive [] (p ∷ ps) m = absurd m
  steps-level additive (e ∷ es) [] m = absurd m
  steps-level additive (e ∷ es) (p ∷ ps) m = λ i. beq (is_additive (m.0.op i)) additive && steps-level additive es ps m.1 i

  module _ (own : List Kind) (outer : List (List Kind)) (form : ItemsForm (own ∷ outer) [] items) where
    steps-have : (es ps : List ChainStep) → StepsPlaced items es ps →
        StepsHave (item_kinds items ∷ own ∷ outer) [] (row_of_steps es) → StepsHave (own ∷ outer) [] (row_of_steps ps)
    unfolding shape-the_row-ChainStep-2 hidden-the_row-ChainStep-2 package.denote.Hole.Carrier.hidden
    steps-have [] [] m h = tt
    steps-have [] (p ∷ ps) m h = absurd m
    steps-have (e ∷ es) [] m h = absurd m
    steps-have (e ∷ es) (p ∷ ps) m h = (m.0.part.kind own outer Integer form h.0, steps-have es ps m.1 h.1)

  pub placed-Chain : (e p : Expr) (es ps : List ChainStep) → IsPlaced items e p → StepsPlaced items es ps → IsPlaced items (Chain e es) (Chain p ps)
  placed-Chain e p es ps f m =
      subst (IsPlaced items (Chain e es)) (sym (Chain-is p ps))
      (subst (λ x. IsPlaced items x (ChainOf p (shape_of_steps ps) (row_of_steps ps))) (sym (Chain-is e es)) (record {
        value = λ x env t g i. both_then (f.value x env t g i) (steps-values x env t g es ps m i) chain;
        kind = λ own outer kind form h. record {
          number = subst (λ n. 1 ≤ n) (steps-number es ps m) h.number;
          level = record { additive = h.level.additive; all = steps-level h.level.additive es ps m ∙ h.level.all };
          first = f.kind own outer Integer form h.first;
          steps = steps-have own outer form es ps m h.steps;
          gives = h.gives;
        };
        faultless = λ w. refl;
      }))

-- ---- arms of a CASE

module _ (items : List Item) where
  arms-number : (es ps : List Arm) → ArmsPlaced items es ps → number_of_arms (row_of_arms es) ≡ number_of_arms (row_of_arms ps)
  unfolding shape-the_row-Arm-3 hidden-the_row-Arm-3 package.denote.Hole.Carrier.hidden
  arms-number [] [] m = refl
  arms-number [] (p ∷ ps) m = absurd m
  arms-number (e ∷ es) [] m = absurd m
  arms-number (e ∷ es) (p ∷ ps) m = ap suc (arms-number es ps m.1)

  arms-value : (x : Row) (env : List Row) (t : Row) (g : items_on items env no_subs x ≡ Good t) (es ps : List Arm) (a b : Outcome Value) → ArmsPlaced items es ps → a ≡ b →
      arm_value (row_of_arms ps) x env [] a ≡ arm_value (row_of_arms es) t (x ∷ env) [] b
  unfolding shape-the_row-Arm-3 hidden-the_row-Arm-3 package.denote.Hole.Carrier.hidden
  arms-value x env t g [] [] a b m same = same
  arms-value x env t g [] (p ∷ ps) a b m same = absurd m
  arms-value x env t g (e ∷ es) [] a b m same = absurd m
  arms-value x env t g (e ∷ es) (p ∷ ps) a b m same =
      λ i. chosen_arm (m.0.condition.value x env t g i) (m.0.value.value x env t g i) (arms-value x env t g es ps a b m.1 same i)

  arms-faultless : items_faultless items ≡ true → (es ps : List Arm) → ArmsPlaced items es ps → arms_faultless (row_of_arms ps) ≡ arms_faultless (row_of_arms es)
  unfolding shape-the_row-Arm-3 hidden-the_row-Arm-3 package.denote.Hole.Carrier.hidden
  arms-faultless w [] [] m = refl
  arms-faultless w [] (p ∷ ps) m = absurd m
  arms-faultless w (e ∷ es) [] m = absurd m
  arms-faultless w (e ∷ es) (p ∷ ps) m = λ i. (m.0.condition.faultless w i && m.0.value.faultless w i) && arms-faultless w es ps m.1 i

  module _ (own : List Kind) (outer : List (List Kind)) (form : ItemsForm (own ∷ outer) [] items) where
    arms-have : (kind : Kind) (es ps : List Arm) → ArmsPlaced items es ps →
        ArmsHave (item_kinds items ∷ own ∷ outer) [] (row_of_arms es) kind → ArmsHave (own ∷ outer) [] (row_of_arms ps) kind
    unfolding shape-the_row-Arm-3 hidden-the_row-Arm-3 package.denote.Hole.Carrier.hidden
    arms-have kind [] [] m h = tt
    arms-have kind [] (p ∷ ps) m h = absurd m
    arms-have kind (e ∷ es) [] m h = absurd m
    arms-have kind (e ∷ es) (p ∷ ps) m h = record {
      condition = m.0.condition.kind own outer Boolean form h.condition;
      arm = m.0.value.kind own outer kind form h.arm;
      others = arms-have kind es ps m.1 h.others;
    }

  pub placed-Case : (es ps : List Arm) (e p : Expr) → ArmsPlaced items es ps → IsPlaced items e p → IsPlaced items (Case es e) (Case ps p)
  placed-Case es ps e p m o =
      subst (IsPlaced items (Case es e)) (sym (Case-is ps p))
      (subst (λ x. IsPlaced items x (CaseOf (shape_of_arms ps) (row_of_arms ps) p)) (sym (Case-is es e)) (record {
        value = λ x env t g. arms-value x env t g es ps _ _ m (o.value x env t g);
        kind = λ own outer kind form h. record {
          number = subst (λ n. 1 ≤ n) (arms-number es ps m) h.number;
          arms = arms-have own outer form kind es ps m h.arms;
          otherwise = o.kind own outer kind form h.otherwise;
        };
        faultless = λ w i. arms-faultless w es ps m i && o.faultless w i;
      }))
