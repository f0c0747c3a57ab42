-- Expressions in which no sublink stands: what the sublinks of a node are changes neither their values nor their kinds.
use Rattle.std.proofs.Common.{◌≡◌, ℕ, List, [], ◌∷◌, slice_get, Some, refl}
use Rattle.perm_values.specs.Values.{same_value, is_null}
use Rattle.perm_values.specs.declared.kind.Kind.{Kind}
use Rattle.perm_values.specs.declared.kind.Kind.TheVariants.{Integer, Boolean}
use Rattle.perm_values.specs.declared.value.Value.{Value}
use Rattle.perm_values.specs.declared.value.Value.TheVariants as value
use Rattle.bag_algebra.proofs.Forms.{alike-kept, op_form-kept, op_parts}
use Rattle.bag_algebra.specs.Bags.{Row}
use Rattle.bag_algebra.specs.Expressions.{operate, chain, has_truth, chosen_arm, value, values, step_values, arm_value}
use Rattle.bag_algebra.specs.Outcome.{Outcome, and_then, mapped, both, both_then}
use Rattle.bag_algebra.specs.built.Patterns.{OpOf, ChainOf, CaseOf, IsNullOf, IsTruthOf, SameOf}
use Rattle.bag_algebra.specs.WellFormed.{HasKind, PartsHave, StepsHave, ArmsHave, number_of_parts}
use Rattle.bag_algebra.specs.declared.expr.Expr.{Expr, Row_of-Expr, Row_of-Arm, Row_of-ChainStep, more_of-Expr, end_of-Expr, more_of-Arm, end_of-Arm, more_of-ChainStep, end_of-ChainStep}
use Rattle.bag_algebra.specs.declared.expr.Expr.TheVariants.{Col, Lit, Sub}

no_sublink : (number : ℕ) (k : Kind) → slice_get {X = Kind} [] number ≡ Some k → ⊥
no_sublink number k e = cc

module _ (scopes : List (List Kind)) (u : Row) (env : List Row) (answers : List Value) where
  mutual
    pub value-without : (e : Expr) (k : Kind) → HasKind scopes [] e k → value e u env answers ≡ value e u env []
    value-without (Col level place) k f = refl
    value-without (Lit constant own) k f = refl
    value-without (OpOf o _ parts) k f =
        let some = op_parts o (number_of_parts parts) (PartsHave scopes [] parts) k f in
        λ i. and_then (values-without parts some.0 some.1 i) (operate o)
    value-without (ChainOf first _ steps) k f = λ i. both_then (value-without first Integer f.first i) (step_values-without steps f.steps i) chain
    value-without (CaseOf _ arms otherwise) k f =
        arm_value-without arms k (value otherwise u env answers) (value otherwise u env []) f.arms (value-without otherwise k f.otherwise)
    value-without (Sub number) k f = absurd (no_sublink number k f)
    value-without (IsNullOf part) k f = λ i. mapped (λ w. value.Boolean (is_null w)) (value-without part f.parts.shared f.parts.parts i)
    value-without (IsTruthOf truth part) k f = λ i. mapped (λ w. value.Boolean (has_truth truth w)) (value-without part Boolean f.parts i)
    value-without (SameOf first second) k f =
        λ i. both (λ w x. value.Boolean (same_value w x)) (value-without first f.parts.shared f.parts.parts.0 i) (value-without second f.parts.shared f.parts.parts.1 i)

    values-without : {m : _} (parts : Row_of-Expr m) (k : Kind) → PartsHave scopes [] parts k → values parts u env answers ≡ values parts u env []
    values-without end_of-Expr k f = refl
    values-without (more_of-Expr part parts) k f = λ i. both (λ w ws. w ∷ ws) (value-without part k f.0 i) (values-without parts k f.1 i)

    step_values-without : {m : _} (steps : Row_of-ChainStep m) → StepsHave scopes [] steps → step_values steps u env answers ≡ step_values steps u env []
    step_values-without end_of-ChainStep f = refl
    step_values-without (more_of-ChainStep operation part steps) f =
        λ i. both (λ w ss. record { operation = operation; operand = w } ∷ ss) (value-without part Integer f.0 i) (step_values-without steps f.1 i)

    arm_value-without : {m : _} (arms : Row_of-Arm m) (k : Kind) (o p : Outcome Value) → ArmsHave scopes [] arms k → o ≡ p →
        arm_value arms u env answers o ≡ arm_value arms u env [] p
    arm_value-without end_of-Arm k o p f e = e
    arm_value-without (more_of-Arm condition arm arms) k o p f e =
        λ i. chosen_arm (value-without condition Boolean f.condition i) (value-without arm k f.arm i) (arm_value-without arms k o p f.others e i)

-- beside sublinks of any kinds
module _ (scopes : List (List Kind)) (subs : List Kind) where
  mutual
    pub has_kind-without : (e : Expr) (k : Kind) → HasKind scopes [] e k → HasKind scopes subs e k
    has_kind-without (Col level place) k f = f
    has_kind-without (Lit v own) k f = f
    has_kind-without (OpOf o _ parts) k f = op_form-kept (λ l h. parts_have-without parts l h) o (number_of_parts parts) k f
    has_kind-without (ChainOf first _ steps) k f =
        record { number = f.number; level = f.level; first = has_kind-without first Integer f.first; steps = steps_have-without steps f.steps; gives = f.gives }
    has_kind-without (CaseOf _ arms otherwise) k f = record { number = f.number; arms = arms_have-without arms k f.arms; otherwise = has_kind-without otherwise k f.otherwise }
    has_kind-without (Sub number) k f = absurd (no_sublink number k f)
    has_kind-without (IsNullOf part) k f = record { parts = alike-kept (λ l h. has_kind-without part l h) f.parts; gives = f.gives }
    has_kind-without (IsTruthOf truth part) k f = record { parts = has_kind-without part Boolean f.parts; gives = f.gives }
    has_kind-without (SameOf first second) k f =
        record { parts = alike-kept (λ l h. (has_kind-without first l h.0, has_kind-without second l h.1)) f.parts; gives = f.gives }

    parts_have-without : {m : _} (parts : Row_of-Expr m) (k : Kind) → PartsHave scopes [] parts k → PartsHave scopes subs parts k
    parts_have-without end_of-Expr k f = tt
    parts_have-without (more_of-Expr part parts) k f = (has_kind-without part k f.0, parts_have-without parts k f.1)

    steps_have-without : {m : _} (steps : Row_of-ChainStep m) → StepsHave scopes [] steps → StepsHave scopes subs steps
    steps_have-without end_of-ChainStep f = tt
    steps_have-without (more_of-ChainStep operation part steps) f = (has_kind-without part Integer f.0, steps_have-without steps f.1)

    arms_have-without : {m : _} (arms : Row_of-Arm m) (k : Kind) → ArmsHave scopes [] arms k → ArmsHave scopes subs arms k
    arms_have-without end_of-Arm k f = tt
    arms_have-without (more_of-Arm condition arm arms) k f =
        record { condition = has_kind-without condition Boolean f.condition; arm = has_kind-without arm k f.arm; others = arms_have-without arms k f.others }
