-- An expression has one kind at most, and reads no sublink behind those that it is well formed with.
use Rattle.std.proofs.Common.{◌≡◌, ℕ, zero, suc, ◌≤◌, List, [], ◌∷◌, ◌++◌, length, Some, refl, sym, ap, ◌∙◌, arith}
use Rattle.std.specs.Prelude.{slice_get}
use Rattle.null_logic.specs.declared.operator.Operator.{Operator}
use Rattle.null_logic.specs.declared.operator.Operator.TheVariants as op
use Rattle.perm_values.specs.Rows.{value_at}
use Rattle.perm_values.specs.declared.kind.Kind.{Kind}
use Rattle.perm_values.specs.declared.kind.Kind.TheVariants.{Integer, Boolean}
use Rattle.perm_values.specs.declared.value.Value.{Value}
use Rattle.perm_values.specs.declared.value.Value.TheVariants as cell
use Rattle.perm_values.specs.Values.{same_value, is_null}
use Rattle.bag_algebra.specs.Bags.{Row}
use Rattle.bag_algebra.specs.Expressions.{value, values, step_values, arm_value, Step, operate, chain, has_truth, chosen_arm}
use Rattle.bag_algebra.specs.Outcome.{Outcome, Good, and_then, mapped, both, both_then}
use Rattle.bag_algebra.specs.built.Patterns.{OpOf, ChainOf, CaseOf, IsNullOf, IsTruthOf, SameOf}
use Rattle.bag_algebra.specs.WellFormed.{op_form, HasKind, PartsHave, StepsHave, ArmsHave, number_of_parts}
use Rattle.bag_algebra.specs.declared.expr.Expr.{Expr, Row_of-Expr, Row_of-Arm, Row_of-ChainStep, more_of-Expr, end_of-Expr, more_of-Arm, end_of-Arm, more_of-ChainStep, end_of-ChainStep}
use Rattle.bag_algebra.specs.declared.expr.Expr.TheVariants.{Col, Lit, Sub}
use Rattle.bag_algebra.proofs.Forms.{op_parts}

-- ---- one kind

op_one : (operator : Operator) (n : ℕ) (all_have : Kind → Type 0) (kind other : Kind) →
    (1 ≤ n → (k l : Kind) → all_have k → all_have l → k ≡ l) → op_form operator n all_have kind → op_form operator n all_have other → kind ≡ other
op_one op.And n all_have kind other one h g = h.gives ∙ sym g.gives
op_one op.Or n all_have kind other one h g = h.gives ∙ sym g.gives
op_one op.Not n all_have kind other one h g = h.gives ∙ sym g.gives
op_one op.Negate n all_have kind other one h g = h.gives ∙ sym g.gives
op_one (op.Compare c) n all_have kind other one h g = h.gives ∙ sym g.gives
op_one (op.Arith c) n all_have kind other one h g = absurd h
op_one op.Like n all_have kind other one h g = h.gives ∙ sym g.gives
op_one op.Between n all_have kind other one h g = h.gives ∙ sym g.gives
op_one op.InList n all_have kind other one h g = h.gives ∙ sym g.gives
op_one op.Coalesce n all_have kind other one h g = one h.number kind other h.parts g.parts
op_one op.NullIf n all_have kind other one h g = let two : n ≡ 2 = h.number in one (omega arith) kind other h.parts g.parts

module _ (scopes : List (List Kind)) (subs : List Kind) where
  mutual
    pub one_kind : (e : Expr) (kind other : Kind) → HasKind scopes subs e kind → HasKind scopes subs e other → kind ≡ other
    one_kind (Col level place) kind other h g = cc (h, g)
    one_kind (Lit v own) kind other h g = h.gives ∙ sym g.gives
    one_kind (OpOf operator _ parts) kind other h g =
        op_one operator (number_of_parts parts) (PartsHave scopes subs parts) kind other (λ some. parts_one parts some) h g
    one_kind (ChainOf first _ steps) kind other h g = h.gives ∙ sym g.gives
    one_kind (CaseOf _ arms otherwise) kind other h g = one_kind otherwise kind other h.otherwise g.otherwise
    one_kind (Sub number) kind other h g = cc (h, g)
    one_kind (IsNullOf part) kind other h g = h.gives ∙ sym g.gives
    one_kind (IsTruthOf truth part) kind other h g = h.gives ∙ sym g.gives
    one_kind (SameOf first second) kind other h g = h.gives ∙ sym g.gives

    parts_one : {m : _} (parts : Row_of-Expr m) → 1 ≤ number_of_parts parts → (kind other : Kind) →
        PartsHave scopes subs parts kind → PartsHave scopes subs parts other → kind ≡ other
    parts_one end_of-Expr some kind other h g = absurd (omega arith)
    parts_one (more_of-Expr part parts) some kind other h g = one_kind part kind other h.0 g.0

-- ---- sublinks behind

front : (kinds : List Kind) (subs more : List Value) (number : ℕ) (kind : Kind) → length subs ≡ length kinds →
    slice_get kinds number ≡ Some kind → value_at (subs ++ more) number ≡ value_at subs number
front [] subs more number kind l h = absurd (cc h)
front (k ∷ kinds) [] more number kind l h = absurd (omega arith)
front (k ∷ kinds) (v ∷ subs) more zero kind l h = refl
front (k ∷ kinds) (v ∷ subs) more (suc number) kind l h = front kinds subs more number kind (omega arith) h

module _ (scopes : List (List Kind)) (kinds : List Kind) (u : Row) (env : List Row) (subs more : List Value)
    (many : length subs ≡ length kinds) where
  mutual
    pub value-more : (e : Expr) (kind : Kind) → HasKind scopes kinds e kind → value e u env (subs ++ more) ≡ value e u env subs
    value-more (Col level place) kind h = refl
    value-more (Lit v own) kind h = refl
    value-more (OpOf operator _ parts) kind h =
        let asked = op_parts operator _ (PartsHave scopes kinds parts) kind h in
        λ i. and_then (values-more parts asked.0 asked.1 i) (operate operator)
    value-more (ChainOf first _ steps) kind h =
        λ i. both_then (value-more first Integer h.first i) (steps-more steps h.steps i) chain
    value-more (CaseOf _ arms otherwise) kind h =
        arms-more arms kind h.arms (value otherwise u env (subs ++ more)) (value otherwise u env subs) (value-more otherwise kind h.otherwise)
    value-more (Sub number) kind h = ap (λ v. Good v) (front kinds subs more number kind many h)
    value-more (IsNullOf part) kind h = λ i. mapped (λ v. cell.Boolean (is_null v)) (value-more part h.parts.shared h.parts.parts i)
    value-more (IsTruthOf truth part) kind h = λ i. mapped (λ v. cell.Boolean (has_truth truth v)) (value-more part Boolean h.parts i)
    value-more (SameOf first second) kind h =
        λ i. both (λ v w. cell.Boolean (same_value v w)) (value-more first h.parts.shared h.parts.parts.0 i) (value-more second h.parts.shared h.parts.parts.1 i)

    values-more : {m : _} (parts : Row_of-Expr m) (kind : Kind) → PartsHave scopes kinds parts kind →
        values parts u env (subs ++ more) ≡ values parts u env subs
    values-more end_of-Expr kind h = refl
    values-more (more_of-Expr part parts) kind h = λ i. both (λ v vs. v ∷ vs) (value-more part kind h.0 i) (values-more parts kind h.1 i)

    steps-more : {m : _} (steps : Row_of-ChainStep m) → StepsHave scopes kinds steps →
        step_values steps u env (subs ++ more) ≡ step_values steps u env subs
    steps-more end_of-ChainStep h = refl
    steps-more (more_of-ChainStep operation part steps) h =
        let made : Value → Step = λ v. record { operation = operation; operand = v } in
        λ i. both (λ v ss. made v ∷ ss) (value-more part Integer h.0 i) (steps-more steps h.1 i)

    arms-more : {m : _} (arms : Row_of-Arm m) (kind : Kind) → ArmsHave scopes kinds arms kind → (after before : Outcome Value) → after ≡ before →
        arm_value arms u env (subs ++ more) after ≡ arm_value arms u env subs before
    arms-more end_of-Arm kind h after before e = e
    arms-more (more_of-Arm condition arm arms) kind h after before e =
        λ i. chosen_arm (value-more condition Boolean h.condition i) (value-more arm kind h.arm i) (arms-more arms kind h.others after before e i)
