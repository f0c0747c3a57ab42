-- What the text of an expression is read as has the expression's value.
use Rattle.std.proofs.Common.{◌≡◌, ℕ, zero, suc, ◌+◌, Bool, true, false, cond, List, [], ◌∷◌, ◌++◌, length, map, pos, negsuc, refl, sym, ap, subst, ◌∙◌, true≢false, arith}
use Rattle.std.specs.Prelude.{◌==◌, if◌then◌else◌, Ok, Err}
use Rattle.std.specs.Int.{is_negative}
use Rattle.std.specs.List.{range_with_len}
use Rattle.std.proofs.lemmas.Bool.Decides.{nat_tests}
use Rattle.null_logic.specs.Arithmetic.{fits_64}
use Rattle.null_logic.specs.Comparison.{compare_values, in_list}
use Rattle.null_logic.specs.Logic.{truth_of, truth_not, truth_or, value_of}
use Rattle.null_logic.specs.declared.arith.Arith.TheVariants.{Subtract}
use Rattle.null_logic.specs.declared.compare.Compare.TheVariants.{Equal}
use Rattle.null_logic.specs.declared.operator.Operator.{Operator}
use Rattle.null_logic.specs.declared.run_fault.RunFault.TheVariants.{OutOfRange}
use Rattle.null_logic.specs.declared.operator.Operator.TheVariants as op
use Rattle.null_logic.specs.declared.truth.Truth.{Truth}
use Rattle.null_logic.specs.declared.truth.Truth.TheVariants.{True, False, Unknown}
use Rattle.perm_values.specs.Values.{same_value, is_null}
use Rattle.perm_values.specs.declared.kind.Kind.{Kind}
use Rattle.perm_values.specs.declared.kind.Kind.TheVariants as kinds
use Rattle.perm_values.specs.declared.value.Value.{Value}
use Rattle.perm_values.specs.declared.value.Value.TheVariants.{Null, Integer, Text, Boolean}
use Rattle.bag_algebra.specs.Bags.{Row}
use Rattle.bag_algebra.specs.Children.{part_values, step_of, arms_value}
use Rattle.bag_algebra.specs.Expressions.{value, values, step_values, arm_value, Step, operate, chain, has_truth, chosen_arm, coalesce}
use Rattle.bag_algebra.specs.Outcome.{Outcome, Good, Bad, and_then, mapped, both, both_then, each, of_result}
use Rattle.bag_algebra.specs.WellFormed.{HasKind, PartsHave, StepsHave, ArmsHave}
use Rattle.bag_algebra.specs.built.Openings.{value-Op, value-Chain, value-Case, value-IsNull, value-IsTruth, value-Same, both-mapped}
use Rattle.bag_algebra.specs.built.Patterns.{OpOf, ChainOf, CaseOf, IsNullOf, IsTruthOf, SameOf}
use Rattle.bag_algebra.specs.declared.expr.Expr.{Expr, Row_of-Expr, Row_of-Arm, Row_of-ChainStep, more_of-Expr, end_of-Expr, more_of-Arm, end_of-Arm, more_of-ChainStep, end_of-ChainStep}
use Rattle.bag_algebra.specs.declared.expr.Expr.TheVariants.{Col, Lit, Op, Sub, IsNull}
use Rattle.sql_printer.specs.rows.Carried.{Carries, Answered}
use Rattle.sql_printer.specs.rows.PrintedExpressions.{asked_in, asked_in_parts, asked_in_steps, asked_in_arms, negative, integer, least, printed_integer, printed_literal, among, first_known, printed_operator, printed_test, printed_expr, printed_parts, printed_steps, printed_arms, never, beside}
use Rattle.sql_printer.specs.rows.Writable.{Writable, WritableParts, WritableSteps, WritableArms, WritableValue}

-- ---- answers

pub answered-rest : (read given : List Value) (n : ℕ) (first more : List ℕ) → Answered read given n (first ++ more)
    → Answered read given n first × Answered read given (n + length first) more
answered-rest read given n [] more a =
    let none : n ≡ n + 0 = omega arith in
    (tt, subst (λ m. Answered read given m more) none a)
answered-rest read given n (number ∷ first) more a =
    let rest = answered-rest read given (suc n) first more a.1 in
    let next : suc n + length first ≡ n + suc (length first) = omega arith in
    ((a.0, rest.0), subst (λ m. Answered read given m more) next rest.1)

-- ---- other forms

beside_false : (t : Truth) → t ≡ truth_or t False
beside_false True = refl
beside_false False = refl
beside_false Unknown = refl

one-in_list : (a b : Value) → compare_values Equal a b ≡ in_list a (b ∷ [])
one-in_list a b = beside_false (compare_values Equal a b)

one-coalesce : (v : Value) → v ≡ coalesce (v ∷ [])
one-coalesce Null = refl
one-coalesce (Integer number) = refl
one-coalesce (Text spelled) = refl
one-coalesce (Boolean truth) = refl

unknown-value : (v : Value) → is_null (value_of (truth_not (truth_of v))) ≡ is_null (value_of (truth_of v))
unknown-value Null = refl
unknown-value (Integer number) = refl
unknown-value (Text spelled) = refl
unknown-value (Boolean true) = refl
unknown-value (Boolean false) = refl

module _ (u : Row) (env : List Row) (answers : List Value) where
  -- a comparison in the place of IN
  one-among : (x y : Outcome Value) →
      and_then (both (λ v vs. v ∷ vs) x (both (λ v vs. v ∷ vs) y (Good []))) (operate (op.Compare Equal))
      ≡ and_then (both (λ v vs. v ∷ vs) x (both (λ v vs. v ∷ vs) y (Good []))) (operate op.InList)
  one-among (Good a) (Good b) = ap (λ t. Good (value_of t)) (one-in_list a b)
  one-among (Good a) (Bad g) = refl
  one-among (Bad f) (Good b) = refl
  one-among (Bad f) (Bad g) = refl

  among-value : (es : List Expr) → value (among es) u env answers ≡ and_then (part_values es u env answers) (operate op.InList)
  among-value [] = value-Op u env answers op.InList []
  among-value (a ∷ []) = value-Op u env answers op.InList (a ∷ [])
  among-value (a ∷ b ∷ []) =
      value-Op u env answers (op.Compare Equal) (a ∷ b ∷ []) ∙ one-among (value a u env answers) (value b u env answers)
  among-value (a ∷ b ∷ c ∷ more) = value-Op u env answers op.InList (a ∷ b ∷ c ∷ more)

  -- a part in the place of COALESCE
  one-known : (x : Outcome Value) → x ≡ and_then (both (λ v vs. v ∷ vs) x (Good [])) (operate op.Coalesce)
  one-known (Good v) = ap Good (one-coalesce v)
  one-known (Bad f) = refl

  known-value : (es : List Expr) → value (first_known es) u env answers ≡ and_then (part_values es u env answers) (operate op.Coalesce)
  known-value [] = value-Op u env answers op.Coalesce []
  known-value (a ∷ []) = one-known (value a u env answers)
  known-value (a ∷ b ∷ more) = value-Op u env answers op.Coalesce (a ∷ b ∷ more)

  op-value : (o : Operator) (es : List Expr) (vs : Outcome (List Value)) → part_values es u env answers ≡ vs
      → value (printed_operator o es) u env answers ≡ and_then vs (operate o)
  op-value op.And es vs e = value-Op u env answers op.And es ∙ ap (λ xs. and_then xs (operate op.And)) e
  op-value op.Or es vs e = value-Op u env answers op.Or es ∙ ap (λ xs. and_then xs (operate op.Or)) e
  op-value op.Not es vs e = value-Op u env answers op.Not es ∙ ap (λ xs. and_then xs (operate op.Not)) e
  op-value op.Negate es vs e = value-Op u env answers op.Negate es ∙ ap (λ xs. and_then xs (operate op.Negate)) e
  op-value (op.Compare c) es vs e = value-Op u env answers (op.Compare c) es ∙ ap (λ xs. and_then xs (operate (op.Compare c))) e
  op-value (op.Arith c) es vs e = value-Op u env answers (op.Arith c) es ∙ ap (λ xs. and_then xs (operate (op.Arith c))) e
  op-value op.Like es vs e = value-Op u env answers op.Like es ∙ ap (λ xs. and_then xs (operate op.Like)) e
  op-value op.Between es vs e = value-Op u env answers op.Between es ∙ ap (λ xs. and_then xs (operate op.Between)) e
  op-value op.InList es vs e = among-value es ∙ ap (λ xs. and_then xs (operate op.InList)) e
  op-value op.Coalesce es vs e = known-value es ∙ ap (λ xs. and_then xs (operate op.Coalesce)) e
  op-value op.NullIf es vs e = value-Op u env answers op.NullIf es ∙ ap (λ xs. and_then xs (operate op.NullIf)) e

  -- NOT of a value is NULL where its truth is unknown
  null-not : (x : Outcome Value) →
      mapped (λ v. Boolean (is_null v)) (and_then (both (λ v vs. v ∷ vs) x (Good [])) (operate op.Not)) ≡ mapped (λ v. Boolean (has_truth Unknown v)) x
  null-not (Good v) = ap (λ b. Good (Boolean b)) (unknown-value v)
  null-not (Bad f) = refl

  test-value : (t : Truth) (e : Expr) (x : Outcome Value) → value e u env answers ≡ x
      → value (printed_test t e) u env answers ≡ mapped (λ v. Boolean (has_truth t v)) x
  test-value True e x same = value-IsTruth u env answers True e ∙ ap (mapped (λ v. Boolean (has_truth True v))) same
  test-value False e x same = value-IsTruth u env answers False e ∙ ap (mapped (λ v. Boolean (has_truth False v))) same
  test-value Unknown e x same =
      value-IsNull u env answers (Op op.Not (e ∷ []))
      ∙ ap (mapped (λ v. Boolean (is_null v))) (value-Op u env answers op.Not (e ∷ []))
      ∙ null-not (value e u env answers) ∙ ap (mapped (λ v. Boolean (has_truth Unknown v))) same

  -- ---- literals

  negative-value : (n : ℕ) → fits_64 (negsuc n) ≡ true → value (negative (suc n)) u env answers ≡ Good (Integer (negsuc n))
  negative-value n fits =
      value-Op u env answers op.Negate (integer (suc n) ∷ [])
      ∙ ap (λ b. mapped Integer (of_result (cond b (Ok (negsuc n)) (Err OutOfRange)))) fits

  least-value : value least u env answers ≡ Good (Integer (negsuc 9223372036854775807))
  least-value =
      value-Chain u env answers (negative 9223372036854775807) (record { op = Subtract; part = integer 1 } ∷ [])
      ∙ ap (λ o. both_then o (each (step_of u env answers) (record { op = Subtract; part = integer 1 } ∷ [])) chain) (negative-value 9223372036854775806 refl)

  below-value : (n : ℕ) (b : Bool) → (suc n == 9223372036854775808) ≡ b → fits_64 (negsuc n) ≡ true
      → value (if b then least else negative (suc n)) u env answers ≡ Good (Integer (negsuc n))
  below-value n true e fits =
      let same : 9223372036854775807 ≡ n = grind (arith, nat_tests, e) in
      least-value ∙ ap (λ m. Good (Integer (negsuc m))) same
  below-value n false e fits = negative-value n fits

  pos-value : (n : ℕ) (b : Bool) → b ≡ false → value (printed_integer b n) u env answers ≡ Good (Integer (pos n))
  pos-value n true e = absurd (true≢false e)
  pos-value n false e = refl

  literal-value : (v : Value) (kind : Kind) → WritableValue v → value (printed_literal v kind) u env answers ≡ Good v
  literal-value Null kind w = refl
  literal-value (Integer (pos n)) kind w = pos-value n (is_negative (pos n)) (grind (arith, nat_tests))
  literal-value (Integer (negsuc n)) kind w = below-value n (suc n == 9223372036854775808) refl w
  literal-value (Text spelled) kind w = refl
  literal-value (Boolean truth) kind w = refl

-- ---- sublinks that stand beside an expression

module _ (u : Row) (env : List Row) (answers : List Value) where
  never-value : (kind : Kind) (number : ℕ) → value (never kind number).condition u env answers ≡ Good (Boolean false)
  never-value kind number =
      value-IsNull u env answers (IsNull (Sub number)) ∙ ap (mapped (λ v. Boolean (is_null v))) (value-IsNull u env answers (Sub number))

  nevers-value : (kind : Kind) (numbers : List ℕ) (o : Outcome Value) → arms_value (map (never kind) numbers) u env answers o ≡ o
  nevers-value kind [] o = refl
  nevers-value kind (number ∷ more) o =
      ap (λ test. chosen_arm test (Good Null) (arms_value (map (never kind) more) u env answers o)) (never-value kind number)
      ∙ nevers-value kind more o

  pub beside-value : (kind : Kind) (count : ℕ) (e : Expr) → value (beside kind count e) u env answers ≡ value e u env answers
  beside-value kind zero e = refl
  beside-value kind (suc count) e =
      value-Case u env answers (map (never kind) (range_with_len 0 (suc count))) e
      ∙ nevers-value kind (range_with_len 0 (suc count)) (value e u env answers)

-- ---- the whole

module _ (scopes : List (List Kind)) (subs : List Kind) (unread : List ℕ) (u v : Row) (env other : List Row)
    (carried : Carries scopes unread (u ∷ env) (v ∷ other)) (given read : List Value) where
  mutual
    pub value-printed : (e : Expr) (kind : Kind) (n : ℕ) → HasKind scopes subs e kind → Writable e → Answered read given n (asked_in e)
        → value (printed_expr unread n e) v other read ≡ value e u env given
    value-printed (Col level place) kind n h w a = ap Good (carried level place kind h)
    value-printed (Lit constant own) kind n h w a = literal-value v other read constant own w
    value-printed (OpOf op.And _ parts) kind n h w a =
        op-value v other read op.And (printed_parts unread n parts) (values parts u env given) (parts-printed parts kinds.Boolean n h.parts w a)
    value-printed (OpOf op.Or _ parts) kind n h w a =
        op-value v other read op.Or (printed_parts unread n parts) (values parts u env given) (parts-printed parts kinds.Boolean n h.parts w a)
    value-printed (OpOf op.Not _ parts) kind n h w a =
        op-value v other read op.Not (printed_parts unread n parts) (values parts u env given) (parts-printed parts kinds.Boolean n h.parts w a)
    value-printed (OpOf op.Negate _ parts) kind n h w a =
        op-value v other read op.Negate (printed_parts unread n parts) (values parts u env given) (parts-printed parts kinds.Integer n h.parts w a)
    value-printed (OpOf (op.Compare c) _ parts) kind n h w a =
        op-value v other read (op.Compare c) (printed_parts unread n parts) (values parts u env given) (parts-printed parts h.parts.shared n h.parts.parts w a)
    value-printed (OpOf (op.Arith c) _ parts) kind n h w a = absurd h
    value-printed (OpOf op.Like _ parts) kind n h w a =
        op-value v other read op.Like (printed_parts unread n parts) (values parts u env given) (parts-printed parts kinds.Text n h.parts w a)
    value-printed (OpOf op.Between _ parts) kind n h w a =
        op-value v other read op.Between (printed_parts unread n parts) (values parts u env given) (parts-printed parts h.parts.shared n h.parts.parts w a)
    value-printed (OpOf op.InList _ parts) kind n h w a =
        op-value v other read op.InList (printed_parts unread n parts) (values parts u env given) (parts-printed parts h.parts.shared n h.parts.parts w a)
    value-printed (OpOf op.Coalesce _ parts) kind n h w a =
        op-value v other read op.Coalesce (printed_parts unread n parts) (values parts u env given) (parts-printed parts kind n h.parts w a)
    value-printed (OpOf op.NullIf _ parts) kind n h w a =
        op-value v other read op.NullIf (printed_parts unread n parts) (values parts u env given) (parts-printed parts kind n h.parts w a)
    value-printed (ChainOf first _ steps) kind n h w a =
        let answered = answered-rest read given n (asked_in first) (asked_in_steps steps) a in
        let later = n + length (asked_in first) in
        let here = value-printed first kinds.Integer n h.first w.0 answered.0 in
        let rest = steps-printed steps later h.steps w.1 answered.1 in
        value-Chain v other read (printed_expr unread n first) (printed_steps unread later steps)
        ∙ (λ i. both_then (here i) (rest i) chain)
    value-printed (CaseOf _ arms otherwise) kind n h w a =
        let answered = answered-rest read given n (asked_in_arms arms) (asked_in otherwise) a in
        let later = n + length (asked_in_arms arms) in
        value-Case v other read (printed_arms unread n arms) (printed_expr unread later otherwise)
        ∙ arms-printed arms kind n (value (printed_expr unread later otherwise) v other read) (value otherwise u env given) h.arms w.0 answered.0
        (value-printed otherwise kind later h.otherwise w.1 answered.1)
    value-printed (Sub number) kind n h w a = ap Good a.0
    value-printed (IsNullOf part) kind n h w a =
        value-IsNull v other read (printed_expr unread n part)
        ∙ ap (mapped (λ x. Boolean (is_null x))) (value-printed part h.parts.shared n h.parts.parts w a)
    value-printed (IsTruthOf truth part) kind n h w a =
        test-value v other read truth (printed_expr unread n part) (value part u env given) (value-printed part kinds.Boolean n h.parts w a)
    value-printed (SameOf first second) kind n h w a =
        let answered = answered-rest read given n (asked_in first) (asked_in second) a in
        let later = n + length (asked_in first) in
        let here = value-printed first h.parts.shared n h.parts.parts.0 w.0 answered.0 in
        let there = value-printed second h.parts.shared later h.parts.parts.1 w.1 answered.1 in
        value-Same v other read (printed_expr unread n first) (printed_expr unread later second)
        ∙ (λ i. both (λ x y. Boolean (same_value x y)) (here i) (there i))

    parts-printed : {m : _} (parts : Row_of-Expr m) (kind : Kind) (n : ℕ) → PartsHave scopes subs parts kind → WritableParts parts
        → Answered read given n (asked_in_parts parts) → part_values (printed_parts unread n parts) v other read ≡ values parts u env given
    parts-printed end_of-Expr kind n h w a = refl
    parts-printed (more_of-Expr part parts) kind n h w a =
        let answered = answered-rest read given n (asked_in part) (asked_in_parts parts) a in
        let here = value-printed part kind n h.0 w.0 answered.0 in
        let rest = parts-printed parts kind (n + length (asked_in part)) h.1 w.1 answered.1 in
        λ i. both (λ x xs. x ∷ xs) (here i) (rest i)

    steps-printed : {m : _} (steps : Row_of-ChainStep m) (n : ℕ) → StepsHave scopes subs steps → WritableSteps steps
        → Answered read given n (asked_in_steps steps) → each (step_of v other read) (printed_steps unread n steps) ≡ step_values steps u env given
    steps-printed end_of-ChainStep n h w a = refl
    steps-printed (more_of-ChainStep operation part steps) n h w a =
        let answered = answered-rest read given n (asked_in part) (asked_in_steps steps) a in
        let later = n + length (asked_in part) in
        let made : Value → Step = λ x. record { operation = operation; operand = x } in
        let here = value-printed part kinds.Integer n h.0 w.0 answered.0 in
        let rest = steps-printed steps later h.1 w.1 answered.1 in
        sym (both-mapped (λ s ss. s ∷ ss) made (value (printed_expr unread n part) v other read) (each (step_of v other read) (printed_steps unread later steps)))
        ∙ (λ i. both (λ x ss. made x ∷ ss) (here i) (rest i))

    arms-printed : {m : _} (arms : Row_of-Arm m) (kind : Kind) (n : ℕ) (o p : Outcome Value) → ArmsHave scopes subs arms kind → WritableArms arms
        → Answered read given n (asked_in_arms arms) → o ≡ p → arms_value (printed_arms unread n arms) v other read o ≡ arm_value arms u env given p
    arms-printed end_of-Arm kind n o p h w a e = e
    arms-printed (more_of-Arm condition arm arms) kind n o p h w a e =
        let tested = answered-rest read given n (asked_in condition) (asked_in arm ++ asked_in_arms arms) a in
        let from = n + length (asked_in condition) in
        let chosen = answered-rest read given from (asked_in arm) (asked_in_arms arms) tested.1 in
        let later = from + length (asked_in arm) in
        let test = value-printed condition kinds.Boolean n h.condition w.0 tested.0 in
        let here = value-printed arm kind from h.arm w.1 chosen.0 in
        let rest = arms-printed arms kind later o p h.others w.2 chosen.1 e in
        λ i. chosen_arm (test i) (here i) (rest i)
