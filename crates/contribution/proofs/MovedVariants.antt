-- Each variant of an expression is moved where its parts are.
use Rattle.std.proofs.Common.{◌≡◌, ℕ, zero, suc, ◌≤◌, ◌+◌, ◌<◌, Bool, not, ◌&&◌, List, [], ◌∷◌, ◌++◌, length, Some, refl, sym, ap, ◌∙◌, subst, arith, take, get_or}
use Rattle.std.specs.Prelude.{slice_get}
use Rattle.std.proofs.lemmas.List.{take_more}
use Rattle.std.proofs.lemmas.Option.{none-some}
use mathlib.Core.Bool.{beq}
use Rattle.null_logic.specs.declared.arith.Arith.{Arith}
use Rattle.null_logic.specs.declared.operator.Operator.{Operator}
use Rattle.null_logic.specs.declared.truth.Truth.{Truth}
use Rattle.perm_values.specs.Rows.{picked, value_at, PlacesWithin}
use Rattle.perm_values.specs.Values.{same_value, is_null}
use Rattle.perm_values.specs.declared.kind.Kind.{Kind}
use Rattle.perm_values.specs.declared.kind.Kind.TheVariants.{Integer, Text, Boolean}
use Rattle.perm_values.specs.declared.value.Value.{Value}
use Rattle.perm_values.specs.declared.value.Value.TheVariants as value
use Rattle.bag_algebra.specs.Bags.{Row}
use Rattle.bag_algebra.specs.built.Openings.{row_of_parts, row_of_steps, row_of_arms, shape_of_steps, shape_of_arms, Chain-is, Case-is, IsNull-is, IsTruth-is, Same-is}
use Rattle.bag_algebra.specs.Expressions.{values, step_values, arm_value, Step, operate, chain, has_truth, chosen_arm}
use Rattle.bag_algebra.specs.FaultFree.{may_fault, parts_faultless, arms_faultless}
use Rattle.bag_algebra.specs.Kinds.{kinds_in}
use Rattle.bag_algebra.specs.Outcome.{Outcome, Good, and_then, mapped, both, both_then}
use Rattle.bag_algebra.specs.built.Patterns.{ChainOf, CaseOf, IsNullOf, IsTruthOf, SameOf}
use Rattle.bag_algebra.specs.WellFormed.{PartsHave, StepsHave, ArmsHave, op_form, is_additive, steps_are, number_of_parts, number_of_steps, number_of_arms}
use Rattle.bag_algebra.specs.declared.expr.Arm.{Arm}
use Rattle.bag_algebra.specs.declared.expr.ChainStep.{ChainStep}
use Rattle.bag_algebra.specs.declared.expr.Expr.{Expr}
use Rattle.bag_algebra.specs.declared.expr.Expr.TheBlock.{shape-the_row-Expr-0, hidden-the_row-Expr-0, shape-the_row-ChainStep-2, hidden-the_row-ChainStep-2, shape-the_row-Arm-3, hidden-the_row-Arm-3}
use Rattle.bag_algebra.specs.declared.expr.Expr.TheVariants.{Col, Lit, Op, Chain, Case, IsNull, IsTruth, Same}
use Rattle.bag_algebra.proofs.Forms.{alike-kept, op_form-kept}
use Rattle.contribution.specs.MovedColumns.{IsMoved, Along, PartsMoved, StepsMoved, ArmsMoved}

-- ---- lists

along-snoc : {X : Type 0} (R : X → X → Type 0) (xs ys : List X) (x y : X) → Along R xs ys → R x y → Along R (xs ++ x ∷ []) (ys ++ y ∷ [])
along-snoc R [] [] x y a r = (r, tt)
along-snoc R [] (z ∷ ys) x y a r = absurd a
along-snoc R (w ∷ xs) [] x y a r = absurd a
along-snoc R (w ∷ xs) (z ∷ ys) x y a r = (a.0, along-snoc R xs ys x y a.1 r)

-- one more of a loop
pub along-next : {X : Type 0} (R : X → X → Type 0) (xs ys more : List X) (i : ℕ) (x y : X) → i < length xs → x ≡ get_or xs i x →
    Along R (take i xs) ys → R x y → more ≡ ys ++ y ∷ [] → Along R (take (i + 1) xs) more
along-next R xs ys more i x y within is a r e =
    let taken : take i xs ++ x ∷ [] ≡ take (i + 1) xs = ap (λ z. take i xs ++ z ∷ []) is ∙ sym (take_more xs i x within) in
    subst (Along R (take (i + 1) xs)) (sym e) (subst (λ zs. Along R zs (ys ++ y ∷ [])) taken (along-snoc R (take i xs) ys x y a r))

-- ---- columns

picked-beyond : (order : List ℕ) (place : ℕ) (u : Row) → length order ≤ place → value.Null ≡ value_at (picked order u) place
picked-beyond [] place u beyond = refl
picked-beyond (o ∷ order) zero u beyond = absurd (omega (arith, beyond))
picked-beyond (o ∷ order) (suc place) u beyond = picked-beyond order place u (omega (arith, beyond))

kinds-beyond : (kinds : List Kind) (order : List ℕ) (place : ℕ) (kind : Kind) → length order ≤ place → slice_get (kinds_in kinds order) place ≡ Some kind → ⊥
kinds-beyond kinds [] place kind beyond e = none-some kind e
kinds-beyond kinds (o ∷ order) zero kind beyond e = absurd (omega (arith, beyond))
kinds-beyond kinds (o ∷ order) (suc place) kind beyond e = kinds-beyond kinds order place kind (omega (arith, beyond)) e

module _ (order : List ℕ) where
  pub moved-none : (place : ℕ) → length order ≤ place → IsMoved order (Col 0 place) (Lit value.Null Text)
  moved-none place beyond = record {
    value = λ u env subs. ap Good (picked-beyond order place u beyond);
    kind = λ kinds outer subs kind within h. absurd (kinds-beyond kinds order place kind beyond h);
    faultless = refl;
  }

-- ---- variants without lists

module _ (order : List ℕ) where
  pub moved-IsNull : (e p : Expr) → IsMoved order e p → IsMoved order (IsNull e) (IsNull p)
  moved-IsNull e p m =
      subst (IsMoved order (IsNull e)) (sym (IsNull-is p)) (subst (λ x. IsMoved order x (IsNullOf p)) (sym (IsNull-is e)) (record {
        value = λ u env subs. ap (mapped (λ v. value.Boolean (is_null v))) (m.value u env subs);
        kind = λ kinds outer subs kind within h. record { parts = alike-kept (λ l g. m.kind kinds outer subs l within g) h.parts; gives = h.gives };
        faultless = m.faultless;
      }))

  pub moved-IsTruth : (truth : Truth) (e p : Expr) → IsMoved order e p → IsMoved order (IsTruth truth e) (IsTruth truth p)
  moved-IsTruth truth e p m =
      subst (IsMoved order (IsTruth truth e)) (sym (IsTruth-is truth p)) (subst (λ x. IsMoved order x (IsTruthOf truth p)) (sym (IsTruth-is truth e)) (record {
        value = λ u env subs. ap (mapped (λ v. value.Boolean (has_truth truth v))) (m.value u env subs);
        kind = λ kinds outer subs kind within h. record { parts = m.kind kinds outer subs Boolean within h.parts; gives = h.gives };
        faultless = m.faultless;
      }))

  pub moved-Same : (e f p r : Expr) → IsMoved order e p → IsMoved order f r → IsMoved order (Same e f) (Same p r)
  moved-Same e f p r m n =
      subst (IsMoved order (Same e f)) (sym (Same-is p r)) (subst (λ x. IsMoved order x (SameOf p r)) (sym (Same-is e f)) (record {
        value = λ u env subs i. both (λ v w. value.Boolean (same_value v w)) (m.value u env subs i) (n.value u env subs i);
        kind = λ kinds outer subs kind within h. record {
          parts = alike-kept (λ l g. (m.kind kinds outer subs l within g.0, n.kind kinds outer subs l within g.1)) h.parts;
          gives = h.gives;
        };
        faultless = λ i. m.faultless i && n.faultless i;
      }))

-- ---- parts of an operator

module _ (order : List ℕ) where
  parts-number : (es ps : List Expr) → PartsMoved order es ps → number_of_parts (row_of_parts es) ≡ number_of_parts (row_of_parts ps)
  unfolding shape-the_row-Expr-0 hidden-the_row-Expr-0 package.denote.Hole.Carrier.hidden
  parts-number [] [] m = refl
  parts-number [] (p ∷ ps) m = absurd m
  parts-number (e ∷ es) [] m = absurd m
  parts-number (e ∷ es) (p ∷ ps) m = ap suc (parts-number es ps m.1)

  parts-values : (u : Row) (env : List Row) (subs : List Value) (es ps : List Expr) → PartsMoved order es ps →
      values (row_of_parts ps) u env subs ≡ values (row_of_parts es) (picked order u) env subs
  unfolding shape-the_row-Expr-0 hidden-the_row-Expr-0 package.denote.Hole.Carrier.hidden
  parts-values u env subs [] [] m = refl
  parts-values u env subs [] (p ∷ ps) m = absurd m
  parts-values u env subs (e ∷ es) [] m = absurd m
  parts-values u env subs (e ∷ es) (p ∷ ps) m = λ i. both (λ v vs. v ∷ vs) (m.0.value u env subs i) (parts-values u env subs es ps m.1 i)

  parts-faultless : (es ps : List Expr) → PartsMoved order es ps → parts_faultless (row_of_parts ps) ≡ parts_faultless (row_of_parts es)
  unfolding shape-the_row-Expr-0 hidden-the_row-Expr-0 package.denote.Hole.Carrier.hidden
  parts-faultless [] [] m = refl
  parts-faultless [] (p ∷ ps) m = absurd m
  parts-faultless (e ∷ es) [] m = absurd m
  parts-faultless (e ∷ es) (p ∷ ps) m = λ i. m.0.faultless i && parts-faultless es ps m.1 i

  module _ (kinds : List Kind) (outer : List (List Kind)) (subs : List Kind) (within : PlacesWithin (length kinds) order) where
    parts-have : (kind : Kind) (es ps : List Expr) → PartsMoved order es ps →
        PartsHave (kinds_in kinds order ∷ outer) subs (row_of_parts es) kind → PartsHave (kinds ∷ outer) subs (row_of_parts ps) kind
    unfolding shape-the_row-Expr-0 hidden-the_row-Expr-0 package.denote.Hole.Carrier.hidden
    parts-have kind [] [] m h = tt
    parts-have kind [] (p ∷ ps) m h = absurd m
    parts-have kind (e ∷ es) [] m h = absurd m
    parts-have kind (e ∷ es) (p ∷ ps) m h = (m.0.kind kinds outer subs kind within h.0, parts-have kind es ps m.1 h.1)

  pub moved-Op : (o : Operator) (es ps : List Expr) → PartsMoved order es ps → IsMoved order (Op o es) (Op o ps)
  moved-Op o es ps m = record {
    value = λ u env subs. ap (λ vs. and_then vs (operate o)) (parts-values u env subs es ps m);
    kind = λ kinds outer subs kind within h.
        subst (λ n. op_form o n (PartsHave (kinds ∷ outer) subs (row_of_parts ps)) kind) (parts-number es ps m)
        (op_form-kept (λ k g. parts-have kinds outer subs within k es ps m g) o (number_of_parts (row_of_parts es)) kind h);
    faultless = ap (λ b. not (may_fault o) && b) (parts-faultless es ps m);
  }

-- ---- steps of a chain

module _ (order : List ℕ) where
  steps-number : (es ps : List ChainStep) → StepsMoved order es ps → number_of_steps (row_of_steps es) ≡ number_of_steps (row_of_steps ps)
  unfolding shape-the_row-ChainStep-2 hidden-the_row-ChainStep-2 package.denote.Hole.Carrier.hidden
  steps-number [] [] m = refl
  steps-number [] (p ∷ ps) m = absurd m
  steps-number (e ∷ es) [] m = absurd m
  steps-number (e ∷ es) (p ∷ ps) m = ap suc (steps-number es ps m.1)

  steps-values : (u : Row) (env : List Row) (subs : List Value) (es ps : List ChainStep) → StepsMoved order es ps →
      step_values (row_of_steps ps) u env subs ≡ step_values (row_of_steps es) (picked order u) env subs
  unfolding shape-the_row-ChainStep-2 hidden-the_row-ChainStep-2 package.denote.Hole.Carrier.hidden
  steps-values u env subs [] [] m = refl
  steps-values u env subs [] (p ∷ ps) m = absurd m
  steps-values u env subs (e ∷ es) [] m = absurd m
  steps-values u env subs (e ∷ es) (p ∷ ps) m =
      let first : Arith → Value → List Step → List Step = λ o v ss. record { operation = o; operand = v } ∷ ss in
      λ i. both (first (m.0.op i)) (m.0.part.value u env subs i) (steps-values u env subs es ps m.1 i)

  steps-level : (additive : Bool) (es ps : List ChainStep) → StepsMoved order es ps → steps_are (row_of_steps ps) additive ≡ steps_are (row_of_steps es) additive
  unfolding shape-the_row-ChainStep-2 hidden-the_row-ChainStep-2 package.denote.Hole.Carrier.hidden
  steps-level additive [] [] m = refl
  steps-level additive [] (p ∷ ps) m = absurd m
  steps-level additive (e ∷ es) [] m = absurd m
  steps-level additive (e ∷ es) (p ∷ ps) m = λ i. beq (is_additive (m.0.op i)) additive && steps-level additive es ps m.1 i

  module _ (kinds : List Kind) (outer : List (List Kind)) (subs : List Kind) (within : PlacesWithin (length kinds) order) where
    steps-have : (es ps : List ChainStep) → StepsMoved order es ps →
        StepsHave (kinds_in kinds order ∷ outer) subs (row_of_steps es) → StepsHave (kinds ∷ outer) subs (row_of_steps ps)
    unfolding shape-the_row-ChainStep-2 hidden-the_row-ChainStep-2 package.denote.Hole.Carrier.hidden
    steps-have [] [] m h = tt
    steps-have [] (p ∷ ps) m h = absurd m
    steps-have (e ∷ es) [] m h = absurd m
    steps-have (e ∷ es) (p ∷ ps) m h = (m.0.part.kind kinds outer subs Integer within h.0, steps-have es ps m.1 h.1)

  pub moved-Chain : (e p : Expr) (es ps : List ChainStep) → IsMoved order e p → StepsMoved order es ps → IsMoved order (Chain e es) (Chain p ps)
  moved-Chain e p es ps f m =
      subst (IsMoved order (Chain e es)) (sym (Chain-is p ps))
      (subst (λ x. IsMoved order x (ChainOf p (shape_of_steps ps) (row_of_steps ps))) (sym (Chain-is e es)) (record {
        value = λ u env subs i. both_then (f.value u env subs i) (steps-values u env subs es ps m i) chain;
        kind = λ kinds outer subs kind within h. record {
          number = subst (λ n. 1 ≤ n) (steps-number es ps m) h.number;
          level = record { additive = h.level.additive; all = steps-level h.level.additive es ps m ∙ h.level.all };
          first = f.kind kinds outer subs Integer within h.first;
          steps = steps-have kinds outer subs within es ps m h.steps;
          gives = h.gives;
        };
        faultless = refl;
      }))

-- ---- arms of a CASE

module _ (order : List ℕ) where
  arms-number : (es ps : List Arm) → ArmsMoved order es ps → number_of_arms (row_of_arms es) ≡ number_of_arms (row_of_arms ps)
  unfolding shape-the_row-Arm-3 hidden-the_row-Arm-3 package.denote.Hole.Carrier.hidden
  arms-number [] [] m = refl
  arms-number [] (p ∷ ps) m = absurd m
  arms-number (e ∷ es) [] m = absurd m
  arms-number (e ∷ es) (p ∷ ps) m = ap suc (arms-number es ps m.1)

  arms-value : (u : Row) (env : List Row) (subs : List Value) (es ps : List Arm) (a b : Outcome Value) → ArmsMoved order es ps → a ≡ b →
      arm_value (row_of_arms ps) u env subs a ≡ arm_value (row_of_arms es) (picked order u) env subs b
  unfolding shape-the_row-Arm-3 hidden-the_row-Arm-3 package.denote.Hole.Carrier.hidden
  arms-value u env subs [] [] a b m same = same
  arms-value u env subs [] (p ∷ ps) a b m same = absurd m
  arms-value u env subs (e ∷ es) [] a b m same = absurd m
  arms-value u env subs (e ∷ es) (p ∷ ps) a b m same =
      λ i. chosen_arm (m.0.condition.value u env subs i) (m.0.value.value u env subs i) (arms-value u env subs es ps a b m.1 same i)

  arms-faultless : (es ps : List Arm) → ArmsMoved order es ps → arms_faultless (row_of_arms ps) ≡ arms_faultless (row_of_arms es)
  unfolding shape-the_row-Arm-3 hidden-the_row-Arm-3 package.denote.Hole.Carrier.hidden
  arms-faultless [] [] m = refl
  arms-faultless [] (p ∷ ps) m = absurd m
  arms-faultless (e ∷ es) [] m = absurd m
  arms-faultless (e ∷ es) (p ∷ ps) m = λ i. (m.0.condition.faultless i && m.0.value.faultless i) && arms-faultless es ps m.1 i

  module _ (kinds : List Kind) (outer : List (List Kind)) (subs : List Kind) (within : PlacesWithin (length kinds) order) where
    arms-have : (kind : Kind) (es ps : List Arm) → ArmsMoved order es ps →
        ArmsHave (kinds_in kinds order ∷ outer) subs (row_of_arms es) kind → ArmsHave (kinds ∷ outer) subs (row_of_arms ps) kind
    unfolding shape-the_row-Arm-3 hidden-the_row-Arm-3 package.denote.Hole.Carrier.hidden
    arms-have kind [] [] m h = tt
    arms-have kind [] (p ∷ ps) m h = absurd m
    arms-have kind (e ∷ es) [] m h = absurd m
    arms-have kind (e ∷ es) (p ∷ ps) m h = record {
      condition = m.0.condition.kind kinds outer subs Boolean within h.condition;
      arm = m.0.value.kind kinds outer subs kind within h.arm;
      others = arms-have kind es ps m.1 h.others;
    }

  pub moved-Case : (es ps : List Arm) (e p : Expr) → ArmsMoved order es ps → IsMoved order e p → IsMoved order (Case es e) (Case ps p)
  moved-Case es ps e p m o =
      subst (IsMoved order (Case es e)) (sym (Case-is ps p))
      (subst (λ x. IsMoved order x (CaseOf (shape_of_arms ps) (row_of_arms ps) p)) (sym (Case-is es e)) (record {
        value = λ u env subs. arms-value u env subs es ps _ _ m (o.value u env subs);
        kind = λ kinds outer subs kind within h. record {
          number = subst (λ n. 1 ≤ n) (arms-number es ps m) h.number;
          arms = arms-have kinds outer subs within kind es ps m h.arms;
          otherwise = o.kind kinds outer subs kind within h.otherwise;
        };
        faultless = λ i. arms-faultless es ps m i && o.faultless i;
      }))
