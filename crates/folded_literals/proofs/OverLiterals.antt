-- What stands over literals alone has one value, and one kind.
use Rattle.std.proofs.Common.{◌≡◌, ◌≤◌, Bool, true, false, cond, ◌&&◌, List, [], ◌∷◌, Some, None, refl, sym, ap, ◌∙◌, subst, true≢false, arith}
use Rattle.std.proofs.lemmas.Option.{same_Some}
use Rattle.null_logic.specs.declared.operator.Operator.{Operator}
use Rattle.null_logic.specs.declared.operator.Operator.TheVariants as op
use Rattle.perm_values.specs.Values.{fits, same_value, is_null}
use Rattle.perm_values.specs.declared.kind.Kind.{Kind}
use Rattle.perm_values.specs.declared.kind.Kind.TheVariants as kind
use Rattle.perm_values.specs.declared.value.Value.{Value}
use Rattle.perm_values.specs.declared.value.Value.TheVariants.{Boolean}
use Rattle.perm_values.proofs.Steps.{none_is_some}
use Rattle.bag_algebra.proofs.Forms.{alike-kept, op_form-kept}
use Rattle.bag_algebra.proofs.Truths.{left-true, right-true}
use Rattle.bag_algebra.specs.Bags.{Row}
use Rattle.bag_algebra.specs.Expressions.{value, values, step_values, arm_value, operate, Step, chain, has_truth, chosen_arm}
use Rattle.bag_algebra.specs.Outcome.{Outcome, Good, and_then, mapped, both, both_then}
use Rattle.bag_algebra.specs.WellFormed.{HasKind, PartsHave, StepsHave, ArmsHave, op_form, number_of_parts}
use Rattle.bag_algebra.specs.built.Patterns.{OpOf, ChainOf, CaseOf, IsNullOf, IsTruthOf, SameOf}
use Rattle.bag_algebra.specs.declared.expr.Expr.{Expr, Row_of-Expr, Row_of-Arm, Row_of-ChainStep, more_of-Expr, end_of-Expr, more_of-Arm, end_of-Arm, more_of-ChainStep, end_of-ChainStep}
use Rattle.bag_algebra.specs.declared.expr.Expr.TheVariants.{Col, Lit, Sub}
use Rattle.contribution.proofs.ValueKinds.{Fits, value-fits}
use Rattle.contribution.proofs.WhereGood.{WhereGood}
use Rattle.query_laws.specs.SameExpressions.{SameExpr}
use Rattle.folded_literals.specs.Constants.{is_literal, literal_kind, kind_given, parts_literal, steps_literal, arms_literal, kind_of_first, constant_kind}

-- a kind that is there where a test holds
where_holds : (b : Bool) (given k : Kind) → cond b (Some given) None ≡ Some k → (b ≡ true) × (given ≡ k)
where_holds true given k e = (refl, same_Some given k e)
where_holds false given k e = none_is_some e

-- ---- literals

literal-value : (e : Expr) → is_literal e ≡ true → (u : Row) (env : List Row) (subs : List Value) → value e u env subs ≡ value e [] [] []
literal-value (Col level place) h u env subs = absurd (true≢false (sym h))
literal-value (Lit v kind) h u env subs = refl
literal-value (OpOf op _ parts) h u env subs = absurd (true≢false (sym h))
literal-value (ChainOf first _ steps) h u env subs = absurd (true≢false (sym h))
literal-value (CaseOf _ arms otherwise) h u env subs = absurd (true≢false (sym h))
literal-value (Sub number) h u env subs = absurd (true≢false (sym h))
literal-value (IsNullOf part) h u env subs = absurd (true≢false (sym h))
literal-value (IsTruthOf truth part) h u env subs = absurd (true≢false (sym h))
literal-value (SameOf first second) h u env subs = absurd (true≢false (sym h))

module _ (scopes : List (List Kind)) (subs : List Kind) where
  literal-formed : (e : Expr) → is_literal e ≡ true → (k : Kind) → HasKind scopes subs e k → HasKind [] [] e k
  literal-formed (Col level place) h k f = absurd (true≢false (sym h))
  literal-formed (Lit v kind) h k f = f
  literal-formed (OpOf op _ parts) h k f = absurd (true≢false (sym h))
  literal-formed (ChainOf first _ steps) h k f = absurd (true≢false (sym h))
  literal-formed (CaseOf _ arms otherwise) h k f = absurd (true≢false (sym h))
  literal-formed (Sub number) h k f = absurd (true≢false (sym h))
  literal-formed (IsNullOf part) h k f = absurd (true≢false (sym h))
  literal-formed (IsTruthOf truth part) h k f = absurd (true≢false (sym h))
  literal-formed (SameOf first second) h k f = absurd (true≢false (sym h))

  parts-formed : {m : _} (parts : Row_of-Expr m) → parts_literal parts ≡ true → (k : Kind) → PartsHave scopes subs parts k → PartsHave [] [] parts k
  parts-formed end_of-Expr h k f = tt
  parts-formed (more_of-Expr part parts) h k f =
      (literal-formed part (left-true (is_literal part) (parts_literal parts) h) k f.0, parts-formed parts (right-true (is_literal part) (parts_literal parts) h) k f.1)

  steps-formed : {m : _} (steps : Row_of-ChainStep m) → steps_literal steps ≡ true → StepsHave scopes subs steps → StepsHave [] [] steps
  steps-formed end_of-ChainStep h f = tt
  steps-formed (more_of-ChainStep op part steps) h f =
      (literal-formed part (left-true (is_literal part) (steps_literal steps) h) kind.Integer f.0, steps-formed steps (right-true (is_literal part) (steps_literal steps) h) f.1)

  arms-formed : {m : _} (arms : Row_of-Arm m) → arms_literal arms ≡ true → (k : Kind) → ArmsHave scopes subs arms k → ArmsHave [] [] arms k
  arms-formed end_of-Arm h k f = tt
  arms-formed (more_of-Arm condition arm arms) h k f =
      let first = left-true (is_literal condition && is_literal arm) (arms_literal arms) h in
      record {
        condition = literal-formed condition (left-true (is_literal condition) (is_literal arm) first) kind.Boolean f.condition;
        arm = literal-formed arm (right-true (is_literal condition) (is_literal arm) first) k f.arm;
        others = arms-formed arms (right-true (is_literal condition && is_literal arm) (arms_literal arms) h) k f.others;
      }

-- the one kind of a literal
literal-one : (e : Expr) → is_literal e ≡ true → (k : Kind) → HasKind [] [] e k → k ≡ literal_kind e
literal-one (Col level place) h k f = absurd (true≢false (sym h))
literal-one (Lit v kind) h k f = f.gives
literal-one (OpOf op _ parts) h k f = absurd (true≢false (sym h))
literal-one (ChainOf first _ steps) h k f = absurd (true≢false (sym h))
literal-one (CaseOf _ arms otherwise) h k f = absurd (true≢false (sym h))
literal-one (Sub number) h k f = absurd (true≢false (sym h))
literal-one (IsNullOf part) h k f = absurd (true≢false (sym h))
literal-one (IsTruthOf truth part) h k f = absurd (true≢false (sym h))
literal-one (SameOf first second) h k f = absurd (true≢false (sym h))

-- ---- lists of literals

module _ (u : Row) (env : List Row) (subs : List Value) where
  parts-value : {m : _} (parts : Row_of-Expr m) → parts_literal parts ≡ true → values parts u env subs ≡ values parts [] [] []
  parts-value end_of-Expr h = refl
  parts-value (more_of-Expr part parts) h =
      λ i. both (λ v vs. v ∷ vs) (literal-value part (left-true (is_literal part) (parts_literal parts) h) u env subs i)
      (parts-value parts (right-true (is_literal part) (parts_literal parts) h) i)

  steps-value : {m : _} (steps : Row_of-ChainStep m) → steps_literal steps ≡ true → step_values steps u env subs ≡ step_values steps [] [] []
  steps-value end_of-ChainStep h = refl
  steps-value (more_of-ChainStep op part steps) h =
      let first : Value → List Step → List Step = λ v ss. record { operation = op; operand = v } ∷ ss in
      λ i. both first (literal-value part (left-true (is_literal part) (steps_literal steps) h) u env subs i)
      (steps-value steps (right-true (is_literal part) (steps_literal steps) h) i)

  arms-value : {m : _} (arms : Row_of-Arm m) → arms_literal arms ≡ true → (a b : Outcome Value) → a ≡ b → arm_value arms u env subs a ≡ arm_value arms [] [] [] b
  arms-value end_of-Arm h a b same = same
  arms-value (more_of-Arm condition arm arms) h a b same =
      let first = left-true (is_literal condition && is_literal arm) (arms_literal arms) h in
      λ i. chosen_arm (literal-value condition (left-true (is_literal condition) (is_literal arm) first) u env subs i)
      (literal-value arm (right-true (is_literal condition) (is_literal arm) first) u env subs i)
      (arms-value arms (right-true (is_literal condition && is_literal arm) (arms_literal arms) h) a b same i)

first-one : {m : _} (parts : Row_of-Expr m) → parts_literal parts ≡ true → 1 ≤ number_of_parts parts → (k : Kind) → PartsHave [] [] parts k → k ≡ kind_of_first parts
first-one end_of-Expr h n k f = absurd (omega (arith, n))
first-one (more_of-Expr part parts) h n k f = literal-one part (left-true (is_literal part) (parts_literal parts) h) k f.0

-- ---- the value

module _ (u : Row) (env : List Row) (subs : List Value) where
  constant-value : (e : Expr) (given : Kind) → constant_kind e ≡ Some given → value e u env subs ≡ value e [] [] []
  constant-value (Col level place) given h = none_is_some h
  constant-value (Lit v kind) given h = refl
  constant-value (OpOf o _ parts) given h =
      ap (λ vs. and_then vs (operate o)) (parts-value u env subs parts (where_holds (parts_literal parts) (kind_given o (kind_of_first parts)) given h).0)
  constant-value (ChainOf first _ steps) given h =
      let all = (where_holds (is_literal first && steps_literal steps) kind.Integer given h).0 in
      λ i. both_then (literal-value first (left-true (is_literal first) (steps_literal steps) all) u env subs i)
      (steps-value u env subs steps (right-true (is_literal first) (steps_literal steps) all) i) chain
  constant-value (CaseOf _ arms otherwise) given h =
      let all = (where_holds (arms_literal arms && is_literal otherwise) (literal_kind otherwise) given h).0 in
      arms-value u env subs arms (left-true (arms_literal arms) (is_literal otherwise) all) _ _
      (literal-value otherwise (right-true (arms_literal arms) (is_literal otherwise) all) u env subs)
  constant-value (Sub number) given h = none_is_some h
  constant-value (IsNullOf part) given h =
      ap (mapped (λ v. Boolean (is_null v))) (literal-value part (where_holds (is_literal part) kind.Boolean given h).0 u env subs)
  constant-value (IsTruthOf truth part) given h =
      ap (mapped (λ v. Boolean (has_truth truth v))) (literal-value part (where_holds (is_literal part) kind.Boolean given h).0 u env subs)
  constant-value (SameOf first second) given h =
      let all = (where_holds (is_literal first && is_literal second) kind.Boolean given h).0 in
      λ i. both (λ v w. Boolean (same_value v w)) (literal-value first (left-true (is_literal first) (is_literal second) all) u env subs i)
      (literal-value second (right-true (is_literal first) (is_literal second) all) u env subs i)

-- ---- the kind

op-one : (o : Operator) {m : _} (parts : Row_of-Expr m) → parts_literal parts ≡ true → (k : Kind) →
    op_form o (number_of_parts parts) (PartsHave [] [] parts) k → k ≡ kind_given o (kind_of_first parts)
op-one op.And parts h k f = f.gives
op-one op.Or parts h k f = f.gives
op-one op.Not parts h k f = f.gives
op-one op.Negate parts h k f = f.gives
op-one (op.Compare c) parts h k f = f.gives
op-one (op.Arith c) parts h k f = absurd f
op-one op.Like parts h k f = f.gives
op-one op.Between parts h k f = f.gives
op-one op.InList parts h k f = f.gives
op-one op.Coalesce parts h k f = first-one parts h f.number k f.parts
op-one op.NullIf parts h k f = first-one parts h (subst (λ n. 1 ≤ n) (sym f.number) (omega arith)) k f.parts

module _ (scopes : List (List Kind)) (subs : List Kind) where
  constant-kind : (e : Expr) (given : Kind) → constant_kind e ≡ Some given → (k : Kind) → HasKind scopes subs e k → HasKind [] [] e k × (k ≡ given)
  constant-kind (Col level place) given h k f = none_is_some h
  constant-kind (Lit v kind) given h k f = none_is_some h
  constant-kind (OpOf o _ parts) given h k f =
      let w = where_holds (parts_literal parts) (kind_given o (kind_of_first parts)) given h in
      let g : op_form o (number_of_parts parts) (PartsHave [] [] parts) k = op_form-kept (λ l p. parts-formed scopes subs parts w.0 l p) o (number_of_parts parts) k f in
      (g, op-one o parts w.0 k g ∙ w.1)
  constant-kind (ChainOf first _ steps) given h k f =
      let w = where_holds (is_literal first && steps_literal steps) kind.Integer given h in (
        record {
          number = f.number;
          level = f.level;
          first = literal-formed scopes subs first (left-true (is_literal first) (steps_literal steps) w.0) kind.Integer f.first;
          steps = steps-formed scopes subs steps (right-true (is_literal first) (steps_literal steps) w.0) f.steps;
          gives = f.gives;
        },
        f.gives ∙ w.1,
      )
  constant-kind (CaseOf _ arms otherwise) given h k f =
      let w = where_holds (arms_literal arms && is_literal otherwise) (literal_kind otherwise) given h in
      let last = right-true (arms_literal arms) (is_literal otherwise) w.0 in
      let g = literal-formed scopes subs otherwise last k f.otherwise in (
        record {
          number = f.number;
          arms = arms-formed scopes subs arms (left-true (arms_literal arms) (is_literal otherwise) w.0) k f.arms;
          otherwise = g;
        },
        literal-one otherwise last k g ∙ w.1,
      )
  constant-kind (Sub number) given h k f = none_is_some h
  constant-kind (IsNullOf part) given h k f =
      let w = where_holds (is_literal part) kind.Boolean given h in
      (record { parts = alike-kept (λ l p. literal-formed scopes subs part w.0 l p) f.parts; gives = f.gives }, f.gives ∙ w.1)
  constant-kind (IsTruthOf truth part) given h k f =
      let w = where_holds (is_literal part) kind.Boolean given h in
      (record { parts = literal-formed scopes subs part w.0 kind.Boolean f.parts; gives = f.gives }, f.gives ∙ w.1)
  constant-kind (SameOf first second) given h k f =
      let w = where_holds (is_literal first && is_literal second) kind.Boolean given h in (
        record {
          parts = alike-kept (λ l p. (
            literal-formed scopes subs first (left-true (is_literal first) (is_literal second) w.0) l p.0,
            literal-formed scopes subs second (right-true (is_literal first) (is_literal second) w.0) l p.1,
          )) f.parts;
          gives = f.gives;
        },
        f.gives ∙ w.1,
      )

-- ---- the literal

fit_of : (k : Kind) (o : Outcome Value) (v : Value) → o ≡ Good v → WhereGood (Fits k) o → fits v k ≡ true
fit_of k o v e h = (subst (WhereGood (Fits k)) e h).fit

pub constant-literal : (e : Expr) (given : Kind) (v : Value) → constant_kind e ≡ Some given → value e [] [] [] ≡ Good v → SameExpr e (Lit v given)
constant-literal e given v h is = record {
  value = λ u env subs. constant-value u env subs e given h ∙ is;
  kind = λ scopes subs k f.
      let g = constant-kind scopes subs e given h k f in
      record {
        fitting = subst (λ l. fits v l ≡ true) g.1 (fit_of k (value e [] [] []) v is (value-fits [] [] [] [] [] refl refl e k g.0));
        gives = g.1;
      };
}
