-- Each variant of an expression is substituted in where its parts are.
use Rattle.std.proofs.Common.{◌≡◌, ℕ, zero, suc, ◌≤◌, ◌<◌, Bool, true, ◌&&◌, List, [], ◌∷◌, length, Some, refl, sym, ap, ◌∙◌, subst, arith, get_or}
use Rattle.std.proofs.lemmas.Option.{same_Some}
use Rattle.std.specs.Prelude.{slice_get}
use mathlib.Core.Bool.{beq}
use Rattle.null_logic.specs.declared.arith.Arith.{Arith}
use Rattle.null_logic.specs.declared.operator.Operator.{Operator}
use Rattle.null_logic.specs.declared.truth.Truth.{Truth}
use Rattle.perm_values.specs.Rows.{value_at}
use Rattle.perm_values.specs.Values.{same_value, is_null}
use Rattle.perm_values.specs.declared.kind.Kind.{Kind}
use Rattle.perm_values.specs.declared.kind.Kind.TheVariants.{Integer, Text, Boolean}
use Rattle.perm_values.specs.declared.value.Value.{Value}
use Rattle.perm_values.specs.declared.value.Value.TheVariants as cell
use Rattle.bag_algebra.proofs.Forms.{alike-kept, op_form-kept}
use Rattle.bag_algebra.proofs.NeverBad.{good-value}
use Rattle.bag_algebra.proofs.Outcomes.{good_value-is}
use Rattle.bag_algebra.proofs.Truths.{left-true, right-true}
use Rattle.bag_algebra.specs.Bags.{Row}
use Rattle.bag_algebra.specs.built.Openings.{row_of_parts, row_of_steps, row_of_arms, shape_of_steps, shape_of_arms, Chain-is, Case-is, IsNull-is, IsTruth-is, Same-is}
use Rattle.bag_algebra.specs.Expressions.{value, values, step_values, arm_value, Step, operate, chain, has_truth, chosen_arm}
use Rattle.bag_algebra.specs.FaultFree.{faultless, items_faultless}
use Rattle.bag_algebra.specs.Kinds.{item_kinds}
use Rattle.bag_algebra.specs.Means.{good_value}
use Rattle.bag_algebra.specs.Outcome.{Outcome, Good, and_then, mapped, both, both_then}
use Rattle.bag_algebra.specs.built.Patterns.{ChainOf, CaseOf, IsNullOf, IsTruthOf, SameOf}
use Rattle.bag_algebra.specs.WellFormed.{HasKind, PartsHave, StepsHave, ArmsHave, ItemsForm, op_form, is_additive, steps_are, number_of_parts, number_of_steps, number_of_arms}
use Rattle.bag_algebra.specs.declared.expr.Arm.{Arm}
use Rattle.bag_algebra.specs.declared.expr.ChainStep.{ChainStep}
use Rattle.bag_algebra.specs.declared.expr.Expr.{Expr}
use Rattle.bag_algebra.specs.declared.expr.Expr.TheBlock.{shape-the_row-Expr-0, hidden-the_row-Expr-0, shape-the_row-ChainStep-2, hidden-the_row-ChainStep-2, shape-the_row-Arm-3, hidden-the_row-Arm-3}
use Rattle.bag_algebra.specs.declared.expr.Expr.TheVariants.{Col, Lit, Op, Chain, Case, IsNull, IsTruth, Same}
use Rattle.bag_algebra.specs.declared.expr.Item.{Item}
use Rattle.contribution.proofs.QueryKinds.{each-all}
use Rattle.contribution.proofs.WhereGood.{Every}
use Rattle.query_laws.proofs.PlacedVariants.{kinds-beyond}
use Rattle.simpler_laws.specs.merged.Substituted.{row_of_items, IsSubstituted, PartsSubstituted, StepsSubstituted, ArmsSubstituted}

-- ---- columns

pub item-value : (item : Item) (items : List Item) → items_faultless (item ∷ items) ≡ true → (u : Row) (env : List Row) (subs : List Value) →
    value item.expr u env subs ≡ Good (good_value (value item.expr u env subs))
item-value item items calm u env subs =
    good_value-is (value item.expr u env subs) (good-value item.expr (left-true (faultless item.expr) (items_faultless items) calm) u env subs)

pub rest-calm : (item : Item) (items : List Item) → items_faultless (item ∷ items) ≡ true → items_faultless items ≡ true
rest-calm item items calm = right-true (faultless item.expr) (items_faultless items) calm

column-value : (lower : List Item) (place : ℕ) (item : Item) → place < length lower → item ≡ get_or lower place item → items_faultless lower ≡ true →
    (u : Row) (env : List Row) (subs : List Value) → value item.expr u env subs ≡ Good (value_at (row_of_items lower u env subs) place)
column-value [] place item low is calm u env subs = absurd (omega (arith, low))
column-value (first ∷ lower) zero item low is calm u env subs =
    ap (λ (i : Item). value i.expr u env subs) is ∙ item-value first lower calm u env subs
column-value (first ∷ lower) (suc place) item low is calm u env subs = column-value lower place item (omega (arith, low)) is (rest-calm first lower calm) u env subs

module _ (scopes : List (List Kind)) (subs : List Kind) where
  column-formed : (lower : List Item) (place : ℕ) (item : Item) (kind : Kind) → place < length lower → item ≡ get_or lower place item →
      Every (λ (i : Item). HasKind scopes subs i.expr i.kind) lower → slice_get (item_kinds lower) place ≡ Some kind → HasKind scopes subs item.expr kind
  column-formed [] place item kind low is h e = absurd (omega (arith, low))
  column-formed (first ∷ lower) zero item kind low is h e =
      subst (λ (i : Item). HasKind scopes subs i.expr kind) (sym is) (subst (HasKind scopes subs first.expr) (same_Some _ _ e) h.0)
  column-formed (first ∷ lower) (suc place) item kind low is h e = column-formed lower place item kind (omega (arith, low)) is h.1 e

pub substituted-column : (lower : List Item) (place : ℕ) (item : Item) → place < length lower → item ≡ get_or lower place item →
    IsSubstituted lower (Col 0 place) item.expr
substituted-column lower place item low is = record {
  value = λ calm u env subs. column-value lower place item low is calm u env subs;
  kind = λ kinds outer subs kind form h. column-formed (kinds ∷ outer) subs lower place item kind low is (each-all _ lower form) h;
}

beyond-value : (lower : List Item) (place : ℕ) (u : Row) (env : List Row) (subs : List Value) → length lower ≤ place →
    cell.Null ≡ value_at (row_of_items lower u env subs) place
beyond-value [] place u env subs beyond = refl
beyond-value (item ∷ lower) zero u env subs beyond = absurd (omega (arith, beyond))
beyond-value (item ∷ lower) (suc place) u env subs beyond = beyond-value lower place u env subs (omega (arith, beyond))

pub substituted-none : (lower : List Item) (place : ℕ) → length lower ≤ place → IsSubstituted lower (Col 0 place) (Lit cell.Null Text)
substituted-none lower place beyond = record {
  value = λ calm u env subs. ap Good (beyond-value lower place u env subs beyond);
  kind = λ kinds outer subs kind form h. absurd (kinds-beyond lower place kind beyond h);
}

module _ (lower : List Item) where
  -- ---- variants without lists

  pub substituted-IsNull : (e p : Expr) → IsSubstituted lower e p → IsSubstituted lower (IsNull e) (IsNull p)
  substituted-IsNull e p m =
      subst (IsSubstituted lower (IsNull e)) (sym (IsNull-is p)) (subst (λ x. IsSubstituted lower x (IsNullOf p)) (sym (IsNull-is e)) (record {
        value = λ calm u env subs. ap (mapped (λ v. cell.Boolean (is_null v))) (m.value calm u env subs);
        kind = λ kinds outer subs kind form h. record { parts = alike-kept (λ l g. m.kind kinds outer subs l form g) h.parts; gives = h.gives };
      }))

  pub substituted-IsTruth : (truth : Truth) (e p : Expr) → IsSubstituted lower e p → IsSubstituted lower (IsTruth truth e) (IsTruth truth p)
  substituted-IsTruth truth e p m =
      subst (IsSubstituted lower (IsTruth truth e)) (sym (IsTruth-is truth p)) (subst (λ x. IsSubstituted lower x (IsTruthOf truth p)) (sym (IsTruth-is truth e)) (record {
        value = λ calm u env subs. ap (mapped (λ v. cell.Boolean (has_truth truth v))) (m.value calm u env subs);
        kind = λ kinds outer subs kind form h. record { parts = m.kind kinds outer subs Boolean form h.parts; gives = h.gives };
      }))

  pub substituted-Same : (e f p r : Expr) → IsSubstituted lower e p → IsSubstituted lower f r → IsSubstituted lower (Same e f) (Same p r)
  substituted-Same e f p r m n =
      subst (IsSubstituted lower (Same e f)) (sym (Same-is p r)) (subst (λ x. IsSubstituted lower x (SameOf p r)) (sym (Same-is e f)) (record {
        value = λ calm u env subs i. both (λ v w. cell.Boolean (same_value v w)) (m.value calm u env subs i) (n.value calm u env subs i);
        kind = λ kinds outer subs kind form h. record {
          parts = alike-kept (λ l g. (m.kind kinds outer subs l form g.0, n.kind kinds outer subs l form g.1)) h.parts;
          gives = h.gives;
        };
      }))

  -- ---- parts of an operator

  parts-number : (es ps : List Expr) → PartsSubstituted lower es ps → number_of_parts (row_of_parts es) ≡ number_of_parts (row_of_parts ps)
  unfolding shape-the_row-Expr-0 hidden-the_row-Expr-0 package.denote.Hole.Carrier.hidden
  parts-number [] [] m = refl
  parts-number [] (p ∷ ps) m = absurd m
  parts-number (e ∷ es) [] m = absurd m
  parts-number (e ∷ es) (p ∷ ps) m = ap suc (parts-number es ps m.1)

  module _ (calm : items_faultless lower ≡ true) (u : Row) (env : List Row) (subs : List Value) where
    parts-values : (es ps : List Expr) → PartsSubstituted lower es ps →
        values (row_of_parts ps) u env subs ≡ values (row_of_parts es) (row_of_items lower u env subs) env subs
    unfolding shape-the_row-Expr-0 hidden-the_row-Expr-0 package.denote.Hole.Carrier.hidden
    parts-values [] [] m = refl
    parts-values [] (p ∷ ps) m = absurd m
    parts-values (e ∷ es) [] m = absurd m
    parts-values (e ∷ es) (p ∷ ps) m = λ i. both (λ v vs. v ∷ vs) (m.0.value calm u env subs i) (parts-values es ps m.1 i)

  module _ (kinds : List Kind) (outer : List (List Kind)) (subs : List Kind) (form : ItemsForm (kinds ∷ outer) subs lower) where
    parts-have : (kind : Kind) (es ps : List Expr) → PartsSubstituted lower es ps →
        PartsHave (item_kinds lower ∷ outer) subs (row_of_parts es) kind → PartsHave (kinds ∷ outer) subs (row_of_parts ps) kind
    unfolding shape-the_row-Expr-0 hidden-the_row-Expr-0 package.denote.Hole.Carrier.hidden
    parts-have kind [] [] m h = tt
    parts-have kind [] (p ∷ ps) m h = absurd m
    parts-have kind (e ∷ es) [] m h = absurd m
    parts-have kind (e ∷ es) (p ∷ ps) m h = (m.0.kind kinds outer subs kind form h.0, parts-have kind es ps m.1 h.1)

  pub substituted-Op : (o : Operator) (es ps : List Expr) → PartsSubstituted lower es ps → IsSubstituted lower (Op o es) (Op o ps)
  substituted-Op o es ps m = record {
    value = λ calm u env subs. ap (λ vs. and_then vs (operate o)) (parts-values calm u env subs es ps m);
    kind = λ kinds outer subs kind form h.
        subst (λ n. op_form o n (PartsHave (kinds ∷ outer) subs (row_of_parts ps)) kind) (parts-number es ps m)
        (op_form-kept (λ k g. parts-have kinds outer subs form k es ps m g) o (number_of_parts (row_of_parts es)) kind h);
  }

  -- ---- steps of a chain

  steps-number : (es ps : List ChainStep) → StepsSubstituted lower es ps → number_of_steps (row_of_steps es) ≡ number_of_steps (row_of_steps ps)
  unfolding shape-the_row-ChainStep-2 hidden-the_row-ChainStep-2 package.denote.Hole.Carrier.hidden
  steps-number [] [] m = refl
  steps-number [] (p ∷ ps) m = absurd m
  steps-number (e ∷ es) [] m = absurd m
  steps-number (e ∷ es) (p ∷ ps) m = ap suc (steps-number es ps m.1)

  module _ (calm : items_faultless lower ≡ true) (u : Row) (env : List Row) (subs : List Value) where
    steps-values : (es ps : List ChainStep) → StepsSubstituted lower es ps →
        step_values (row_of_steps ps) u env subs ≡ step_values (row_of_steps es) (row_of_items lower u env subs) env subs
    unfolding shape-the_row-ChainStep-2 hidden-the_row-ChainStep-2 package.denote.Hole.Carrier.hidden
    steps-values [] [] m = refl
    steps-values [] (p ∷ ps) m = absurd m
    steps-values (e ∷ es) [] m = absurd m
    steps-values (e ∷ es) (p ∷ ps) m =
        let first : Arith → Value → List Step → List Step = λ o v ss. record { operation = o; operand = v } ∷ ss in
        λ i. both (first (m.0.op i)) (m.0.part.value calm u env subs i) (steps-values es ps m.1 i)

  steps-level : (additive : Bool) (es ps : List ChainStep) → StepsSubstituted lower es ps →
      steps_are (row_of_steps ps) additive ≡ steps_are (row_of_steps es) additive
  unfolding shape-the_row-ChainStep-2 hidden-the_row-ChainStep-2 package.denote.Hole.Carrier.hidden
  steps-level additive [] [] m = refl
  steps-level additive [] (p ∷ ps) m = absurd m
  steps-level additive (e ∷ es) [] m = absurd m
  steps-level additive (e ∷ es) (p ∷ ps) m = λ i. beq (is_additive (m.0.op i)) additive && steps-level additive es ps m.1 i

  module _ (kinds : List Kind) (outer : List (List Kind)) (subs : List Kind) (form : ItemsForm (kinds ∷ outer) subs lower) where
    steps-have : (es ps : List ChainStep) → StepsSubstituted lower es ps →
        StepsHave (item_kinds lower ∷ outer) subs (row_of_steps es) → StepsHave (kinds ∷ outer) subs (row_of_steps ps)
    unfolding shape-the_row-ChainStep-2 hidden-the_row-ChainStep-2 package.denote.Hole.Carrier.hidden
    steps-have [] [] m h = tt
    steps-have [] (p ∷ ps) m h = absurd m
    steps-have (e ∷ es) [] m h = absurd m
    steps-have (e ∷ es) (p ∷ ps) m h = (m.0.part.kind kinds outer subs Integer form h.0, steps-have es ps m.1 h.1)

  pub substituted-Chain : (e p : Expr) (es ps : List ChainStep) → IsSubstituted lower e p → StepsSubstituted lower es ps →
      IsSubstituted lower (Chain e es) (Chain p ps)
  substituted-Chain e p es ps f m =
      subst (IsSubstituted lower (Chain e es)) (sym (Chain-is p ps))
      (subst (λ x. IsSubstituted lower x (ChainOf p (shape_of_steps ps) (row_of_steps ps))) (sym (Chain-is e es)) (record {
        value = λ calm u env subs i. both_then (f.value calm u env subs i) (steps-values calm u env subs es ps m i) chain;
        kind = λ kinds outer subs kind form h. record {
          number = subst (λ n. 1 ≤ n) (steps-number es ps m) h.number;
          level = record { additive = h.level.additive; all = steps-level h.level.additive es ps m ∙ h.level.all };
          first = f.kind kinds outer subs Integer form h.first;
          steps = steps-have kinds outer subs form es ps m h.steps;
          gives = h.gives;
        };
      }))

  -- ---- arms of a CASE

  arms-number : (es ps : List Arm) → ArmsSubstituted lower es ps → number_of_arms (row_of_arms es) ≡ number_of_arms (row_of_arms ps)
  unfolding shape-the_row-Arm-3 hidden-the_row-Arm-3 package.denote.Hole.Carrier.hidden
  arms-number [] [] m = refl
  arms-number [] (p ∷ ps) m = absurd m
  arms-number (e ∷ es) [] m = absurd m
  arms-number (e ∷ es) (p ∷ ps) m = ap suc (arms-number es ps m.1)

  module _ (calm : items_faultless lower ≡ true) (u : Row) (env : List Row) (subs : List Value) where
    arms-value : (es ps : List Arm) (a b : Outcome Value) → ArmsSubstituted lower es ps → a ≡ b →
        arm_value (row_of_arms ps) u env subs a ≡ arm_value (row_of_arms es) (row_of_items lower u env subs) env subs b
    unfolding shape-the_row-Arm-3 hidden-the_row-Arm-3 package.denote.Hole.Carrier.hidden
    arms-value [] [] a b m same = same
    arms-value [] (p ∷ ps) a b m same = absurd m
    arms-value (e ∷ es) [] a b m same = absurd m
    arms-value (e ∷ es) (p ∷ ps) a b m same =
        λ i. chosen_arm (m.0.condition.value calm u env subs i) (m.0.value.value calm u env subs i) (arms-value es ps a b m.1 same i)

  module _ (kinds : List Kind) (outer : List (List Kind)) (subs : List Kind) (form : ItemsForm (kinds ∷ outer) subs lower) where
    arms-have : (kind : Kind) (es ps : List Arm) → ArmsSubstituted lower es ps →
        ArmsHave (item_kinds lower ∷ outer) subs (row_of_arms es) kind → ArmsHave (kinds ∷ outer) subs (row_of_arms ps) kind
    unfolding shape-the_row-Arm-3 hidden-the_row-Arm-3 package.denote.Hole.Carrier.hidden
    arms-have kind [] [] m h = tt
    arms-have kind [] (p ∷ ps) m h = absurd m
    arms-have kind (e ∷ es) [] m h = absurd m
    arms-have kind (e ∷ es) (p ∷ ps) m h = record {
      condition = m.0.condition.kind kinds outer subs Boolean form h.condition;
      arm = m.0.value.kind kinds outer subs kind form h.arm;
      others = arms-have kind es ps m.1 h.others;
    }

  pub substituted-Case : (es ps : List Arm) (e p : Expr) → ArmsSubstituted lower es ps → IsSubstituted lower e p →
      IsSubstituted lower (Case es e) (Case ps p)
  substituted-Case es ps e p m o =
      subst (IsSubstituted lower (Case es e)) (sym (Case-is ps p))
      (subst (λ x. IsSubstituted lower x (CaseOf (shape_of_arms ps) (row_of_arms ps) p)) (sym (Case-is es e)) (record {
        value = λ calm u env subs. arms-value calm u env subs es ps _ _ m (o.value calm u env subs);
        kind = λ kinds outer subs kind form h. record {
          number = subst (λ n. 1 ≤ n) (arms-number es ps m) h.number;
          arms = arms-have kinds outer subs form kind es ps m h.arms;
          otherwise = o.kind kinds outer subs kind form h.otherwise;
        };
      }))
