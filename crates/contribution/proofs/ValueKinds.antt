-- The value of a well formed expression fits its kind.
use Rattle.std.proofs.Common.{◌≡◌, ℕ, zero, suc, Bool, true, false, cond, List, [], ◌∷◌, slice_get, Some, None, refl, sym, subst, true≢false}
use Rattle.std.specs.Prelude.{⊤}
use Rattle.std.specs.Prelude.{ℤ, Result, Ok, Err}
use Rattle.null_logic.specs.Arithmetic.{calculate, negate}
use Rattle.null_logic.specs.Comparison.{compare_values, between, in_list}
use Rattle.null_logic.specs.Logic.{value_of, is_true, truth_of, truth_not}
use Rattle.null_logic.specs.declared.arith.Arith.{Arith}
use Rattle.null_logic.specs.declared.operator.Operator.{Operator}
use Rattle.null_logic.specs.declared.operator.Operator.TheVariants as op
use Rattle.null_logic.specs.declared.run_fault.RunFault.{RunFault}
use Rattle.null_logic.specs.declared.truth.Truth.{Truth}
use Rattle.null_logic.specs.declared.truth.Truth.TheVariants.{True, False, Unknown}
use Rattle.perm_values.specs.Rows.{value_at, row_fits}
use Rattle.perm_values.specs.Values.{fits, same_value, is_null}
use Rattle.perm_values.specs.declared.kind.Kind.{Kind}
use Rattle.perm_values.specs.declared.kind.Kind.TheVariants as kind
use Rattle.perm_values.specs.declared.value.Value.{Value}
use Rattle.perm_values.specs.declared.value.Value.TheVariants.{Null, Integer, Text, Boolean}
use Rattle.bag_algebra.specs.Bags.{Row}
use Rattle.bag_algebra.specs.Expressions.{row_at, with_one, with_two, with_three, all_true, some_true, coalesce, null_if, arith_values, negate_value, like_values, operate, Step, chain, has_truth, chosen_arm, value, values, step_values, arm_value}
use Rattle.bag_algebra.specs.Fits.{row_begins, env_fits}
use Rattle.bag_algebra.specs.Outcome.{Outcome, Good, Bad, of_result, and_then, mapped, both, both_then}
use Rattle.bag_algebra.specs.built.Patterns.{OpOf, ChainOf, CaseOf, IsNullOf, IsTruthOf, SameOf}
use Rattle.bag_algebra.specs.WellFormed.{column_kind, OpForm, op_form, HasKind, PartsHave, ArmsHave, number_of_parts}
use Rattle.bag_algebra.specs.declared.expr.Expr.{Expr, Row_of-Expr, Row_of-Arm, more_of-Expr, end_of-Expr, more_of-Arm, end_of-Arm}
use Rattle.bag_algebra.specs.declared.expr.Expr.TheVariants.{Col, Lit, Sub}
use Rattle.contribution.proofs.WhereGood.{WhereGood, Every, any_value, good-mapped, good-and_then, good-both, good-both_then}
use Rattle.std.proofs.lemmas.Bool.{and_parts, and_from}

pub record Fits (kind : Kind) (v : Value) : Type 0 where
  pub fit : fits v kind ≡ true

abbrev pub GoodFits : Kind → Outcome Value → Type 0
GoodFits kind o = WhereGood (Fits kind) o

pub null-fits : (kind : Kind) → Fits kind Null
null-fits kind.Integer = record { fit = refl }
null-fits kind.Text = record { fit = refl }
null-fits kind.Boolean = record { fit = refl }

-- ---- columns

module _ {A : Type 0} where
  nothing_there : {a : A} {P : Type 0} → None ≡ Some a → P
  nothing_there e = cc

  the_one : {a b : A} → Some a ≡ Some b → a ≡ b
  the_one e = cc

pub begins-fits : (row : Row) (kinds : List Kind) (place : ℕ) (kind : Kind) → row_begins row kinds ≡ true → slice_get kinds place ≡ Some kind →
    Fits kind (value_at row place)
begins-fits row [] place kind b e = nothing_there e
begins-fits [] (k ∷ kinds) place kind b e = absurd (true≢false (sym b))
begins-fits (v ∷ row) (k ∷ kinds) zero kind b e = record { fit = subst (λ l. fits v l ≡ true) (the_one e) (and_parts (fits v k) (row_begins row kinds) b).0 }
begins-fits (v ∷ row) (k ∷ kinds) (suc place) kind b e = begins-fits row kinds place kind (and_parts (fits v k) (row_begins row kinds) b).1 e

pub fits-begins : (row : Row) (kinds : List Kind) → row_fits row kinds ≡ true → row_begins row kinds ≡ true
fits-begins [] [] f = refl
fits-begins [] (k ∷ kinds) f = f
fits-begins (v ∷ row) [] f = refl
fits-begins (v ∷ row) (k ∷ kinds) f =
    let parts = and_parts (fits v k) (row_fits row kinds) f in
    and_from (fits v k) (row_begins row kinds) parts.0 (fits-begins row kinds parts.1)

-- a column of rows that fit
pub column-fits : (env : List Row) (scopes : List (List Kind)) (level place : ℕ) (kind : Kind) → env_fits env scopes ≡ true →
    column_kind scopes level place ≡ Some kind →
    Fits kind (value_at (row_at env level) place)
column-fits env [] level place kind f e = nothing_there e
column-fits [] (kinds ∷ scopes) level place kind f e = absurd (true≢false (sym f))
column-fits (row ∷ env) (kinds ∷ scopes) zero place kind f e = begins-fits row kinds place kind (and_parts (row_begins row kinds) (env_fits env scopes) f).0 e
column-fits (row ∷ env) (kinds ∷ scopes) (suc level) place kind f e = column-fits env scopes level place kind (and_parts (row_begins row kinds) (env_fits env scopes) f).1 e

-- ---- operators

pub truth-fits : (t : Truth) → Fits kind.Boolean (value_of t)
truth-fits True = record { fit = refl }
truth-fits False = record { fit = refl }
truth-fits Unknown = record { fit = refl }

pub integer-fits : (z : ℤ) → Fits kind.Integer (Integer z)
integer-fits z = record { fit = refl }

pub boolean-fits : (b : Bool) → Fits kind.Boolean (Boolean b)
boolean-fits b = record { fit = refl }

with_one-fits : (kind : Kind) (vs : List Value) (f : Value → Outcome Value) → ((a : Value) → GoodFits kind (f a)) → GoodFits kind (with_one vs f)
with_one-fits kind [] f h = null-fits kind
with_one-fits kind (a ∷ vs) f h = h a

with_two-fits : (kind : Kind) (vs : List Value) (f : Value → Value → Outcome Value) → ((a b : Value) → GoodFits kind (f a b)) →
    GoodFits kind (with_two vs f)
with_two-fits kind [] f h = null-fits kind
with_two-fits kind (a ∷ []) f h = null-fits kind
with_two-fits kind (a ∷ b ∷ vs) f h = h a b

with_three-fits : (kind : Kind) (vs : List Value) (f : Value → Value → Value → Outcome Value) → ((a b c : Value) → GoodFits kind (f a b c)) →
    GoodFits kind (with_three vs f)
with_three-fits kind [] f h = null-fits kind
with_three-fits kind (a ∷ []) f h = null-fits kind
with_three-fits kind (a ∷ b ∷ []) f h = null-fits kind
with_three-fits kind (a ∷ b ∷ c ∷ vs) f h = h a b c

number-fits : (r : Result ℤ RunFault) → GoodFits kind.Integer (mapped Integer (of_result r))
number-fits (Ok z) = integer-fits z
number-fits (Err fault) = tt

pub arith_values-fits : (c : Arith) (a b : Value) → GoodFits kind.Integer (arith_values c a b)
arith_values-fits c (Integer a) (Integer b) = number-fits (calculate c a b)
arith_values-fits c (Integer a) Null = null-fits kind.Integer
arith_values-fits c (Integer a) (Text b) = null-fits kind.Integer
arith_values-fits c (Integer a) (Boolean b) = null-fits kind.Integer
arith_values-fits c Null b = null-fits kind.Integer
arith_values-fits c (Text a) b = null-fits kind.Integer
arith_values-fits c (Boolean a) b = null-fits kind.Integer

negate_value-fits : (a : Value) → GoodFits kind.Integer (negate_value a)
negate_value-fits (Integer a) = number-fits (negate a)
negate_value-fits Null = null-fits kind.Integer
negate_value-fits (Text a) = null-fits kind.Integer
negate_value-fits (Boolean a) = null-fits kind.Integer

like_values-fits : (a p : Value) → Fits kind.Boolean (like_values a p)
like_values-fits (Text a) (Text p) = boolean-fits _
like_values-fits (Text a) Null = null-fits kind.Boolean
like_values-fits (Text a) (Integer p) = null-fits kind.Boolean
like_values-fits (Text a) (Boolean p) = null-fits kind.Boolean
like_values-fits Null p = null-fits kind.Boolean
like_values-fits (Integer a) p = null-fits kind.Boolean
like_values-fits (Boolean a) p = null-fits kind.Boolean

either-fits : (kind : Kind) (b : Bool) (v w : Value) → Fits kind v → Fits kind w → Fits kind (cond b v w)
either-fits kind true v w h g = h
either-fits kind false v w h g = g

coalesce-fits : (kind : Kind) (vs : List Value) → Every (Fits kind) vs → Fits kind (coalesce vs)
coalesce-fits kind [] h = null-fits kind
coalesce-fits kind (v ∷ vs) h = either-fits kind (is_null v) (coalesce vs) v (coalesce-fits kind vs h.1) h.0

null_if-fits : (kind : Kind) (vs : List Value) → Every (Fits kind) vs → GoodFits kind (with_two vs (λ a b. Good (null_if a b)))
null_if-fits kind [] h = null-fits kind
null_if-fits kind (a ∷ []) h = null-fits kind
null_if-fits kind (a ∷ b ∷ vs) h = either-fits kind _ Null a (null-fits kind) h.0

in_list-fits : (vs : List Value) → GoodFits kind.Boolean (operate op.InList vs)
in_list-fits [] = null-fits kind.Boolean
in_list-fits (a ∷ vs) = truth-fits (in_list a vs)

given_kind : {Number Parts : Type 0} (given kind : Kind) (o : Outcome Value) → OpForm Number Parts given kind → GoodFits given o → GoodFits kind o
given_kind given kind o form h = subst (λ k. GoodFits k o) (sym form.gives) h

-- an operator on good parts, which have the kinds that it needs
operate-fits : (o : Operator) (n : ℕ) (all_have : Kind → Type 0) (given : Kind) (vs : Outcome (List Value)) → op_form o n all_have given →
    ((k : Kind) → all_have k → WhereGood (Every (Fits k)) vs) → GoodFits given (and_then vs (operate o))
operate-fits o n all_have given (Bad f) form parts = tt
operate-fits op.And n all_have given (Good vs) form parts = given_kind kind.Boolean given (operate op.And vs) form (truth-fits (all_true vs))
operate-fits op.Or n all_have given (Good vs) form parts = given_kind kind.Boolean given (operate op.Or vs) form (truth-fits (some_true vs))
operate-fits op.Not n all_have given (Good vs) form parts = given_kind kind.Boolean given _ form (with_one-fits kind.Boolean vs _ (λ a. truth-fits (truth_not (truth_of a))))
operate-fits op.Negate n all_have given (Good vs) form parts = given_kind kind.Integer given _ form (with_one-fits kind.Integer vs negate_value negate_value-fits)
operate-fits (op.Compare c) n all_have given (Good vs) form parts = given_kind kind.Boolean given _ form (with_two-fits kind.Boolean vs _ (λ a b. truth-fits (compare_values c a b)))
operate-fits (op.Arith c) n all_have given (Good vs) form parts = absurd form
operate-fits op.Like n all_have given (Good vs) form parts = given_kind kind.Boolean given _ form (with_two-fits kind.Boolean vs _ like_values-fits)
operate-fits op.Between n all_have given (Good vs) form parts = given_kind kind.Boolean given _ form (with_three-fits kind.Boolean vs _ (λ a low high. truth-fits (between a low high)))
operate-fits op.InList n all_have given (Good vs) form parts = given_kind kind.Boolean given _ form (in_list-fits vs)
operate-fits op.Coalesce n all_have given (Good vs) form parts = coalesce-fits given vs (parts given form.parts)
operate-fits op.NullIf n all_have given (Good vs) form parts = null_if-fits given vs (parts given form.parts)

chain-fits : (v : Value) (steps : List Step) → Fits kind.Integer v → GoodFits kind.Integer (chain v steps)
chain-fits v [] h = h
chain-fits v (step ∷ steps) h =
    good-and_then (Fits kind.Integer) (Fits kind.Integer) (arith_values step.operation v step.operand) (λ w. chain w steps)
    (arith_values-fits step.operation v step.operand) (λ w g. chain-fits w steps g)

chosen_arm-fits : (kind : Kind) (condition arm after : Outcome Value) → GoodFits kind arm → GoodFits kind after →
    GoodFits kind (chosen_arm condition arm after)
chosen_arm-fits kind (Good c) arm after h g = by_truth (is_true (truth_of c)) h g where
  by_truth : (b : Bool) → GoodFits kind arm → GoodFits kind after → GoodFits kind (cond b arm after)
  by_truth true h g = h
  by_truth false h g = g
chosen_arm-fits kind (Bad f) arm after h g = tt

test-fits : (k : Kind) (o : Outcome Value) → k ≡ kind.Boolean → GoodFits kind.Boolean o → GoodFits k o
test-fits k o e h = subst (λ l. GoodFits l o) (sym e) h

-- ---- expressions, on a row and outer rows that fit the scopes, with values of the sublinks that fit theirs

module _ (scopes : List (List Kind)) (sub_kinds : List Kind) (u : Row) (env : List Row) (answers : List Value) (fitting : env_fits (u ∷ env) scopes ≡ true)
    (answered : row_fits answers sub_kinds ≡ true) where
  mutual
    pub value-fits : (e : Expr) (k : Kind) → HasKind scopes sub_kinds e k → GoodFits k (value e u env answers)
    value-fits (Col level place) k form = column-fits (u ∷ env) scopes level place k fitting form
    value-fits (Lit v own) k form = record { fit = subst (λ l. fits v l ≡ true) (sym form.gives) form.fitting }
    value-fits (OpOf o _ parts) k form = operate-fits o (number_of_parts parts) (PartsHave scopes sub_kinds parts) k (values parts u env answers) form (λ l h. values-fit parts l h)
    value-fits (ChainOf first _ steps) k form =
        subst (λ l. GoodFits l (both_then (value first u env answers) (step_values steps u env answers) chain)) (sym form.gives)
        (good-both_then (Fits kind.Integer) (λ x. ⊤) (Fits kind.Integer) (value first u env answers) (step_values steps u env answers) chain
        (value-fits first kind.Integer form.first) (any_value (step_values steps u env answers)) (λ v ss h g. chain-fits v ss h))
    value-fits (CaseOf _ arms otherwise) k form = arm_value-fits arms k (value otherwise u env answers) form.arms (value-fits otherwise k form.otherwise)
    value-fits (Sub number) k form = begins-fits answers sub_kinds number k (fits-begins answers sub_kinds answered) form
    value-fits (IsNullOf part) k form =
        test-fits k (mapped (λ v. Boolean (is_null v)) (value part u env answers)) form.gives
        (good-mapped (λ v. ⊤) (Fits kind.Boolean) (λ v. Boolean (is_null v)) (value part u env answers) (any_value (value part u env answers)) (λ v h. boolean-fits (is_null v)))
    value-fits (IsTruthOf truth part) k form =
        test-fits k (mapped (λ v. Boolean (has_truth truth v)) (value part u env answers)) form.gives
        (good-mapped (λ v. ⊤) (Fits kind.Boolean) (λ v. Boolean (has_truth truth v)) (value part u env answers) (any_value (value part u env answers)) (λ v h. boolean-fits (has_truth truth v)))
    value-fits (SameOf first second) k form =
        test-fits k (both (λ v w. Boolean (same_value v w)) (value first u env answers) (value second u env answers)) form.gives
        (good-both (λ v. ⊤) (λ v. ⊤) (Fits kind.Boolean) (λ v w. Boolean (same_value v w)) (value first u env answers) (value second u env answers)
        (any_value (value first u env answers)) (any_value (value second u env answers)) (λ v w h g. boolean-fits (same_value v w)))

    values-fit : {m : _} (parts : Row_of-Expr m) (k : Kind) → PartsHave scopes sub_kinds parts k →
        WhereGood (Every (Fits k)) (values parts u env answers)
    values-fit end_of-Expr k form = tt
    values-fit (more_of-Expr part parts) k form =
        good-both (Fits k) (Every (Fits k)) (Every (Fits k)) (λ v vs. v ∷ vs) (value part u env answers) (values parts u env answers)
        (value-fits part k form.0) (values-fit parts k form.1) (λ v vs h g. (h, g))

    arm_value-fits : {m : _} (arms : Row_of-Arm m) (k : Kind) (otherwise : Outcome Value) → ArmsHave scopes sub_kinds arms k → GoodFits k otherwise →
        GoodFits k (arm_value arms u env answers otherwise)
    arm_value-fits end_of-Arm k otherwise form h = h
    arm_value-fits (more_of-Arm condition arm arms) k otherwise form h =
        chosen_arm-fits k (value condition u env answers) (value arm u env answers) (arm_value arms u env answers otherwise)
        (value-fits arm k form.arm) (arm_value-fits arms k otherwise form.others h)
