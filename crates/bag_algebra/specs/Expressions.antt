-- The value of an expression on a row: strict but for CASE (ISO/IEC 9075-2, 'value expression'; that every operand
-- is evaluated, and that all faults count, is this project's own).
use Rattle.std.specs.Prelude.{ℕ, Bool, cond, List, [], ◌∷◌, slice_index_or}
use Rattle.std.specs.Str.{chars}
use Rattle.null_logic.specs.Arithmetic.{calculate, negate}
use Rattle.null_logic.specs.Comparison.{compare_values, between, in_list}
use Rattle.null_logic.specs.Like.{like}
use Rattle.null_logic.specs.Logic.{truth_and, truth_or, truth_not, truth_of, value_of, is_true}
use Rattle.null_logic.specs.declared.arith.Arith.{Arith}
use Rattle.null_logic.specs.declared.compare.Compare.TheVariants.{Equal}
use Rattle.null_logic.specs.declared.operator.Operator.{Operator}
use Rattle.null_logic.specs.declared.operator.Operator.TheVariants as op
use Rattle.null_logic.specs.declared.truth.Truth.{Truth}
use Rattle.null_logic.specs.declared.truth.Truth.TheVariants.{True, False, Unknown}
use Rattle.perm_values.specs.Rows.{value_at}
use Rattle.perm_values.specs.Values.{same_value, is_null}
use Rattle.perm_values.specs.declared.value.Value.{Value}
use Rattle.perm_values.specs.declared.value.Value.TheVariants.{Null, Integer, Text, Boolean}
use Rattle.bag_algebra.specs.Bags.{Row}
use Rattle.bag_algebra.specs.Outcome.{Outcome, Good, and_then, mapped, both, both_then, of_result}
use Rattle.bag_algebra.specs.built.Patterns.{OpOf, ChainOf, CaseOf, IsNullOf, IsTruthOf, SameOf}
use Rattle.bag_algebra.specs.declared.expr.Expr.{Expr, Row_of-Expr, Row_of-Arm, Row_of-ChainStep, more_of-Expr, end_of-Expr, more_of-Arm, end_of-Arm, more_of-ChainStep, end_of-ChainStep}
use Rattle.bag_algebra.specs.declared.expr.Expr.TheVariants.{Col, Lit, Sub}

-- a row out of range has no values
abbrev pub row_at : List Row → ℕ → Row
row_at env level = slice_index_or env level []

-- level 0 is the node's own row, level k the kth outer row
abbrev pub column : ℕ → ℕ → Row → List Row → Value
column level place u env = value_at (row_at (u ∷ env) level) place

abbrev pub with_one : List Value → (Value → Outcome Value) → Outcome Value
with_one [] f = Good Null
with_one (a ∷ rest) f = f a

abbrev pub with_two : List Value → (Value → Value → Outcome Value) → Outcome Value
with_two [] f = Good Null
with_two (a ∷ []) f = Good Null
with_two (a ∷ b ∷ rest) f = f a b

abbrev pub with_three : List Value → (Value → Value → Value → Outcome Value) → Outcome Value
with_three [] f = Good Null
with_three (a ∷ []) f = Good Null
with_three (a ∷ b ∷ []) f = Good Null
with_three (a ∷ b ∷ c ∷ rest) f = f a b c

abbrev pub all_true : List Value → Truth
all_true [] = True
all_true (v ∷ vs) = truth_and (truth_of v) (all_true vs)

abbrev pub some_true : List Value → Truth
some_true [] = False
some_true (v ∷ vs) = truth_or (truth_of v) (some_true vs)

-- the first value that isn't NULL, or NULL
abbrev pub coalesce : List Value → Value
coalesce [] = Null
coalesce (v ∷ vs) = cond (is_null v) (coalesce vs) v

-- NULL where a = b is true, otherwise a
abbrev pub null_if : Value → Value → Value
null_if a b = cond (is_true (compare_values Equal a b)) Null a

-- arithmetic beside NULL is NULL, also where the divisor is 0
abbrev pub arith_values : Arith → Value → Value → Outcome Value
arith_values op (Integer a) (Integer b) = mapped Integer (of_result (calculate op a b))
arith_values op (Integer a) Null = Good Null
arith_values op (Integer a) (Text b) = Good Null
arith_values op (Integer a) (Boolean b) = Good Null
arith_values op Null b = Good Null
arith_values op (Text a) b = Good Null
arith_values op (Boolean a) b = Good Null

abbrev pub negate_value : Value → Outcome Value
negate_value (Integer a) = mapped Integer (of_result (negate a))
negate_value Null = Good Null
negate_value (Text a) = Good Null
negate_value (Boolean a) = Good Null

abbrev pub like_values : Value → Value → Value
like_values (Text a) (Text p) = Boolean (like (chars a) (chars p))
like_values (Text a) Null = Null
like_values (Text a) (Integer p) = Null
like_values (Text a) (Boolean p) = Null
like_values Null p = Null
like_values (Integer a) p = Null
like_values (Boolean a) p = Null

-- an operator on the values of its parts
abbrev pub operate : Operator → List Value → Outcome Value
operate op.And vs = Good (value_of (all_true vs))
operate op.Or vs = Good (value_of (some_true vs))
operate op.Not vs = with_one vs (λ a. Good (value_of (truth_not (truth_of a))))
operate op.Negate vs = with_one vs negate_value
operate (op.Compare c) vs = with_two vs (λ a b. Good (value_of (compare_values c a b)))
operate (op.Arith c) vs = with_two vs (arith_values c)
operate op.Like vs = with_two vs (λ a p. Good (like_values a p))
operate op.Between vs = with_three vs (λ a low high. Good (value_of (between a low high)))
operate op.InList [] = Good Null
operate op.InList (a ∷ vs) = Good (value_of (in_list a vs))
operate op.Coalesce vs = Good (coalesce vs)
operate op.NullIf vs = with_two vs (λ a b. Good (null_if a b))

-- one step of a chain: an operation and the value of its right operand
pub record Step : Type 0 where
  pub operation : Arith
  pub operand : Value

-- a chain from the left, up to the first step that faults
abbrev pub chain : Value → List Step → Outcome Value
chain v [] = Good v
chain v (step ∷ steps) = and_then (arith_values step.operation v step.operand) (λ w. chain w steps)

abbrev pub has_truth : Truth → Value → Bool
has_truth True v = is_true (truth_of v)
has_truth False v = is_true (truth_not (truth_of v))
has_truth Unknown v = is_null (value_of (truth_of v))

-- the value of the arm where its condition is true, otherwise what comes after it
abbrev pub chosen_arm : Outcome Value → Outcome Value → Outcome Value → Outcome Value
chosen_arm condition arm after = and_then condition (λ c. cond (is_true (truth_of c)) arm after)

-- the value of an expression on row u, with the outer rows env and the values of the node's sublinks
abbrev mutual
  pub value : Expr → Row → List Row → List Value → Outcome Value
  value (Col level place) u env subs = Good (column level place u env)
  value (Lit v kind) u env subs = Good v
  value (OpOf op _ parts) u env subs = and_then (values parts u env subs) (operate op)
  value (ChainOf first _ steps) u env subs = both_then (value first u env subs) (step_values steps u env subs) chain
  value (CaseOf _ arms otherwise) u env subs = arm_value arms u env subs (value otherwise u env subs)
  value (Sub number) u env subs = Good (value_at subs number)
  value (IsNullOf part) u env subs = mapped (λ v. Boolean (is_null v)) (value part u env subs)
  value (IsTruthOf truth part) u env subs = mapped (λ v. Boolean (has_truth truth v)) (value part u env subs)
  value (SameOf first second) u env subs = both (λ v w. Boolean (same_value v w)) (value first u env subs) (value second u env subs)

  -- of parts, each of which is evaluated
  pub values : {m : _} → Row_of-Expr m → Row → List Row → List Value → Outcome (List Value)
  values end_of-Expr u env subs = Good []
  values (more_of-Expr part parts) u env subs = both (λ v vs. v ∷ vs) (value part u env subs) (values parts u env subs)

  pub step_values : {m : _} → Row_of-ChainStep m → Row → List Row → List Value → Outcome (List Step)
  step_values end_of-ChainStep u env subs = Good []
  step_values (more_of-ChainStep op part steps) u env subs =
      both (λ v ss. record { operation = op; operand = v } ∷ ss) (value part u env subs) (step_values steps u env subs)

  -- the first arm whose condition is true chooses; only it is evaluated
  pub arm_value : {m : _} → Row_of-Arm m → Row → List Row → List Value → Outcome Value → Outcome Value
  arm_value end_of-Arm u env subs otherwise = otherwise
  arm_value (more_of-Arm condition arm arms) u env subs otherwise =
      chosen_arm (value condition u env subs) (value arm u env subs) (arm_value arms u env subs otherwise)
