-- An expression over parts that may stand for its own may stand for it.
use Rattle.std.proofs.Common.{◌≡◌, suc, ◌≤◌, Bool, ◌&&◌, List, [], ◌∷◌, refl, sym, ap, ◌∙◌, subst}
use mathlib.Core.Bool.{beq}
use Rattle.null_logic.specs.declared.arith.Arith.{Arith}
use Rattle.null_logic.specs.declared.operator.Operator.{Operator}
use Rattle.null_logic.specs.declared.truth.Truth.{Truth}
use Rattle.perm_values.specs.Values.{same_value, is_null}
use Rattle.perm_values.specs.declared.kind.Kind.{Kind}
use Rattle.perm_values.specs.declared.kind.Kind.TheVariants.{Integer, Boolean}
use Rattle.perm_values.specs.declared.value.Value.{Value}
use Rattle.perm_values.specs.declared.value.Value.TheVariants as value
use Rattle.bag_algebra.proofs.Forms.{alike-kept, op_form-kept}
use Rattle.bag_algebra.specs.Bags.{Row}
use Rattle.bag_algebra.specs.built.Openings.{row_of_parts, row_of_steps, row_of_arms, shape_of_steps, shape_of_arms, Chain-is, Case-is, IsNull-is, IsTruth-is, Same-is}
use Rattle.bag_algebra.specs.Expressions.{values, step_values, arm_value, Step, operate, chain, has_truth, chosen_arm}
use Rattle.bag_algebra.specs.Outcome.{Outcome, and_then, mapped, both, both_then}
use Rattle.bag_algebra.specs.built.Patterns.{ChainOf, CaseOf, IsNullOf, IsTruthOf, SameOf}
use Rattle.bag_algebra.specs.WellFormed.{PartsHave, StepsHave, ArmsHave, op_form, is_additive, steps_are, number_of_parts, number_of_steps, number_of_arms}
use Rattle.bag_algebra.specs.declared.expr.Arm.{Arm}
use Rattle.bag_algebra.specs.declared.expr.ChainStep.{ChainStep}
use Rattle.bag_algebra.specs.declared.expr.Expr.{Expr}
use Rattle.bag_algebra.specs.declared.expr.Expr.TheBlock.{shape-the_row-Expr-0, hidden-the_row-Expr-0, shape-the_row-ChainStep-2, hidden-the_row-ChainStep-2, shape-the_row-Arm-3, hidden-the_row-Arm-3}
use Rattle.bag_algebra.specs.declared.expr.Expr.TheVariants.{Op, Chain, Case, IsNull, IsTruth, Same}
use Rattle.contribution.specs.MovedColumns.{Along}
use Rattle.query_laws.specs.SameExpressions.{SameExpr, SameItem, SameItems, SameAggregate, SameAggregates}
use Rattle.bag_algebra.specs.declared.expr.Item.{Item}
use Rattle.bag_algebra.specs.declared.query.Aggr.{Aggr}
use Rattle.std.proofs.Common.{IfOk, Result, Ok, Err}
use Rattle.perm_values.specs.declared.no_memory.NoMemory.{NoMemory}
use Rattle.folded_literals.specs.Rebuilt.{SameParts, SameSteps, SameArms}

pub same-onward : (e f g : Expr) → SameExpr e f → SameExpr f g → SameExpr e g
same-onward e f g s t = record {
  value = λ u env subs. s.value u env subs ∙ t.value u env subs;
  kind = λ scopes subs k h. t.kind scopes subs k (s.kind scopes subs k h);
}

-- ---- variants without lists

pub same-IsNull : (e f : Expr) → SameExpr e f → SameExpr (IsNull e) (IsNull f)
same-IsNull e f s =
    subst (SameExpr (IsNull e)) (sym (IsNull-is f)) (subst (λ x. SameExpr x (IsNullOf f)) (sym (IsNull-is e)) (record {
      value = λ u env subs. ap (mapped (λ v. value.Boolean (is_null v))) (s.value u env subs);
      kind = λ scopes subs k h. record { parts = alike-kept (λ l p. s.kind scopes subs l p) h.parts; gives = h.gives };
    }))

pub same-IsTruth : (truth : Truth) (e f : Expr) → SameExpr e f → SameExpr (IsTruth truth e) (IsTruth truth f)
same-IsTruth truth e f s =
    subst (SameExpr (IsTruth truth e)) (sym (IsTruth-is truth f)) (subst (λ x. SameExpr x (IsTruthOf truth f)) (sym (IsTruth-is truth e)) (record {
      value = λ u env subs. ap (mapped (λ v. value.Boolean (has_truth truth v))) (s.value u env subs);
      kind = λ scopes subs k h. record { parts = s.kind scopes subs Boolean h.parts; gives = h.gives };
    }))

pub same-Same : (e f g h : Expr) → SameExpr e g → SameExpr f h → SameExpr (Same e f) (Same g h)
same-Same e f g h s t =
    subst (SameExpr (Same e f)) (sym (Same-is g h)) (subst (λ x. SameExpr x (SameOf g h)) (sym (Same-is e f)) (record {
      value = λ u env subs i. both (λ v w. value.Boolean (same_value v w)) (s.value u env subs i) (t.value u env subs i);
      kind = λ scopes subs k f. record {
        parts = alike-kept (λ l p. (s.kind scopes subs l p.0, t.kind scopes subs l p.1)) f.parts;
        gives = f.gives;
      };
    }))

-- ---- parts of an operator

parts-number : (es fs : List Expr) → SameParts es fs → number_of_parts (row_of_parts es) ≡ number_of_parts (row_of_parts fs)
unfolding shape-the_row-Expr-0 hidden-the_row-Expr-0 package.denote.Hole.Carrier.hidden
parts-number [] [] s = refl
parts-number [] (f ∷ fs) s = absurd s
parts-number (e ∷ es) [] s = absurd s
parts-number (e ∷ es) (f ∷ fs) s = ap suc (parts-number es fs s.1)

module _ (u : Row) (env : List Row) (subs : List Value) where
  parts-values : (es fs : List Expr) → SameParts es fs → values (row_of_parts es) u env subs ≡ values (row_of_parts fs) u env subs
  unfolding shape-the_row-Expr-0 hidden-the_row-Expr-0 package.denote.Hole.Carrier.hidden
  parts-values [] [] s = refl
  parts-values [] (f ∷ fs) s = absurd s
  parts-values (e ∷ es) [] s = absurd s
  parts-values (e ∷ es) (f ∷ fs) s = λ i. both (λ v vs. v ∷ vs) (s.0.value u env subs i) (parts-values es fs s.1 i)

module _ (scopes : List (List Kind)) (subs : List Kind) where
  parts-have : (kind : Kind) (es fs : List Expr) → SameParts es fs → PartsHave scopes subs (row_of_parts es) kind → PartsHave scopes subs (row_of_parts fs) kind
  unfolding shape-the_row-Expr-0 hidden-the_row-Expr-0 package.denote.Hole.Carrier.hidden
  parts-have kind [] [] s h = tt
  parts-have kind [] (f ∷ fs) s h = absurd s
  parts-have kind (e ∷ es) [] s h = absurd s
  parts-have kind (e ∷ es) (f ∷ fs) s h = (s.0.kind scopes subs kind h.0, parts-have kind es fs s.1 h.1)

pub same-Op : (o : Operator) (es fs : List Expr) → SameParts es fs → SameExpr (Op o es) (Op o fs)
same-Op o es fs s = record {
  value = λ u env subs. ap (λ vs. and_then vs (operate o)) (parts-values u env subs es fs s);
  kind = λ scopes subs kind h.
      subst (λ n. op_form o n (PartsHave scopes subs (row_of_parts fs)) kind) (parts-number es fs s)
      (op_form-kept (λ k p. parts-have scopes subs k es fs s p) o (number_of_parts (row_of_parts es)) kind h);
}

-- ---- steps of a chain

steps-number : (es fs : List ChainStep) → SameSteps es fs → number_of_steps (row_of_steps es) ≡ number_of_steps (row_of_steps fs)
unfolding shape-the_row-ChainStep-2 hidden-the_row-ChainStep-2 package.denote.Hole.Carrier.hidden
steps-number [] [] s = refl
steps-number [] (f ∷ fs) s = absurd s
steps-number (e ∷ es) [] s = absurd s
steps-number (e ∷ es) (f ∷ fs) s = ap suc (steps-number es fs s.1)

module _ (u : Row) (env : List Row) (subs : List Value) where
  steps-values : (es fs : List ChainStep) → SameSteps es fs → step_values (row_of_steps es) u env subs ≡ step_values (row_of_steps fs) u env subs
  unfolding shape-the_row-ChainStep-2 hidden-the_row-ChainStep-2 package.denote.Hole.Carrier.hidden
  steps-values [] [] s = refl
  steps-values [] (f ∷ fs) s = absurd s
  steps-values (e ∷ es) [] s = absurd s
  steps-values (e ∷ es) (f ∷ fs) s =
      let first : Arith → Value → List Step → List Step = λ o v ss. record { operation = o; operand = v } ∷ ss in
      λ i. both (first (sym s.0.op i)) (s.0.part.value u env subs i) (steps-values es fs s.1 i)

steps-level : (additive : Bool) (es fs : List ChainStep) → SameSteps es fs → steps_are (row_of_steps fs) additive ≡ steps_are (row_of_steps es) additive
unfolding shape-the_row-ChainStep-2 hidden-the_row-ChainStep-2 package.denote.Hole.Carrier.hidden
steps-level additive [] [] s = refl
steps-level additive [] (f ∷ fs) s = absurd s
steps-level additive (e ∷ es) [] s = absurd s
steps-level additive (e ∷ es) (f ∷ fs) s = λ i. beq (is_additive (s.0.op i)) additive && steps-level additive es fs s.1 i

module _ (scopes : List (List Kind)) (subs : List Kind) where
  steps-have : (es fs : List ChainStep) → SameSteps es fs → StepsHave scopes subs (row_of_steps es) → StepsHave scopes subs (row_of_steps fs)
  unfolding shape-the_row-ChainStep-2 hidden-the_row-ChainStep-2 package.denote.Hole.Carrier.hidden
  steps-have [] [] s h = tt
  steps-have [] (f ∷ fs) s h = absurd s
  steps-have (e ∷ es) [] s h = absurd s
  steps-have (e ∷ es) (f ∷ fs) s h = (s.0.part.kind scopes subs Integer h.0, steps-have es fs s.1 h.1)

pub same-Chain : (e f : Expr) (es fs : List ChainStep) → SameExpr e f → SameSteps es fs → SameExpr (Chain e es) (Chain f fs)
same-Chain e f es fs s t =
    subst (SameExpr (Chain e es)) (sym (Chain-is f fs))
    (subst (λ x. SameExpr x (ChainOf f (shape_of_steps fs) (row_of_steps fs))) (sym (Chain-is e es)) (record {
      value = λ u env subs i. both_then (s.value u env subs i) (steps-values u env subs es fs t i) chain;
      kind = λ scopes subs kind h. record {
        number = subst (λ n. 1 ≤ n) (steps-number es fs t) h.number;
        level = record { additive = h.level.additive; all = steps-level h.level.additive es fs t ∙ h.level.all };
        first = s.kind scopes subs Integer h.first;
        steps = steps-have scopes subs es fs t h.steps;
        gives = h.gives;
      };
    }))

-- ---- arms of a CASE

arms-number : (es fs : List Arm) → SameArms es fs → number_of_arms (row_of_arms es) ≡ number_of_arms (row_of_arms fs)
unfolding shape-the_row-Arm-3 hidden-the_row-Arm-3 package.denote.Hole.Carrier.hidden
arms-number [] [] s = refl
arms-number [] (f ∷ fs) s = absurd s
arms-number (e ∷ es) [] s = absurd s
arms-number (e ∷ es) (f ∷ fs) s = ap suc (arms-number es fs s.1)

module _ (u : Row) (env : List Row) (subs : List Value) where
  arms-value : (es fs : List Arm) (a b : Outcome Value) → SameArms es fs → a ≡ b →
      arm_value (row_of_arms es) u env subs a ≡ arm_value (row_of_arms fs) u env subs b
  unfolding shape-the_row-Arm-3 hidden-the_row-Arm-3 package.denote.Hole.Carrier.hidden
  arms-value [] [] a b s same = same
  arms-value [] (f ∷ fs) a b s same = absurd s
  arms-value (e ∷ es) [] a b s same = absurd s
  arms-value (e ∷ es) (f ∷ fs) a b s same =
      λ i. chosen_arm (s.0.condition.value u env subs i) (s.0.value.value u env subs i) (arms-value es fs a b s.1 same i)

module _ (scopes : List (List Kind)) (subs : List Kind) where
  arms-have : (kind : Kind) (es fs : List Arm) → SameArms es fs → ArmsHave scopes subs (row_of_arms es) kind → ArmsHave scopes subs (row_of_arms fs) kind
  unfolding shape-the_row-Arm-3 hidden-the_row-Arm-3 package.denote.Hole.Carrier.hidden
  arms-have kind [] [] s h = tt
  arms-have kind [] (f ∷ fs) s h = absurd s
  arms-have kind (e ∷ es) [] s h = absurd s
  arms-have kind (e ∷ es) (f ∷ fs) s h = record {
    condition = s.0.condition.kind scopes subs Boolean h.condition;
    arm = s.0.value.kind scopes subs kind h.arm;
    others = arms-have kind es fs s.1 h.others;
  }

pub same-Case : (es fs : List Arm) (e f : Expr) → SameArms es fs → SameExpr e f → SameExpr (Case es e) (Case fs f)
same-Case es fs e f s t =
    subst (SameExpr (Case es e)) (sym (Case-is fs f))
    (subst (λ x. SameExpr x (CaseOf (shape_of_arms fs) (row_of_arms fs) f)) (sym (Case-is es e)) (record {
      value = λ u env subs. arms-value u env subs es fs _ _ s (t.value u env subs);
      kind = λ scopes subs kind h. record {
        number = subst (λ n. 1 ≤ n) (arms-number es fs s) h.number;
        arms = arms-have scopes subs kind es fs s h.arms;
        otherwise = t.kind scopes subs kind h.otherwise;
      };
    }))

-- ---- items and aggregates

pub items-along : (items others : List Item) → Along SameItem items others → SameItems items others
items-along [] [] s = s
items-along [] (other ∷ others) s = absurd s
items-along (item ∷ items) [] s = absurd s
items-along (item ∷ items) (other ∷ others) s = (s.0, items-along items others s.1)

pub aggregates-along : (aggregates others : List Aggr) → Along SameAggregate aggregates others → SameAggregates aggregates others
aggregates-along [] [] s = s
aggregates-along [] (other ∷ others) s = absurd s
aggregates-along (aggregate ∷ aggregates) [] s = absurd s
aggregates-along (aggregate ∷ aggregates) (other ∷ others) s = (s.0, aggregates-along aggregates others s.1)

-- ---- what is made of an expression over the parts

-- what may stand for that may stand for the expression
pub made_onward : (expr e f : Expr) → expr ≡ e → SameExpr e f → (result : Result Expr NoMemory) → IfOk result (λ made. SameExpr f made) →
    IfOk result (λ made. SameExpr expr made)
made_onward expr e f is s (Ok made) h = subst (λ x. SameExpr x made) (sym is) (same-onward e f made s h)
made_onward expr e f is s (Err error) h = h
