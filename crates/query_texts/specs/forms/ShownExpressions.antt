-- How expressions are printed. What is made of parts stands in parentheses; each NULL is a CAST, so that its kind is known; and a
-- form that PostgreSQL and SQLite read in the same way is taken where there is one.
use Rattle.std.specs.Prelude.{ℕ, ◌+◌, Bool, true, false, if◌then◌else◌, List, [], ◌∷◌, slice_index_or, unsigned_abs, ◌==◌}
use Rattle.std.specs.Int.{is_negative}
use Rattle.null_logic.specs.declared.arith.Arith.{Arith}
use Rattle.null_logic.specs.declared.arith.Arith.TheVariants.{Add, Subtract, Multiply, Divide, Remainder}
use Rattle.null_logic.specs.declared.compare.Compare.TheVariants as compare
use Rattle.null_logic.specs.declared.operator.Operator.{Operator}
use Rattle.null_logic.specs.declared.operator.Operator.TheVariants as op
use Rattle.null_logic.specs.declared.truth.Truth.{Truth}
use Rattle.null_logic.specs.declared.truth.Truth.TheVariants.{True, False, Unknown}
use Rattle.perm_values.specs.declared.kind.Kind.{Kind}
use Rattle.perm_values.specs.declared.kind.Kind.TheVariants as kinds
use Rattle.perm_values.specs.declared.value.Value.{Value}
use Rattle.perm_values.specs.declared.value.Value.TheVariants.{Null, Integer, Text, Boolean}
use Rattle.bag_algebra.specs.WellFormed.{is_additive}
use Rattle.bag_algebra.specs.built.Patterns.{OpOf, ChainOf, CaseOf, IsNullOf, IsTruthOf, SameOf}
use Rattle.bag_algebra.specs.declared.expr.Expr.{Expr, Row_of-Expr, Row_of-Arm, Row_of-ChainStep, more_of-Expr, end_of-Expr, more_of-Arm, end_of-Arm, more_of-ChainStep, end_of-ChainStep}
use Rattle.bag_algebra.specs.declared.expr.Expr.TheVariants.{Col, Lit, Sub}
use Rattle.tree_texts.specs.Forms as f
use Rattle.tree_texts.specs.Forms.{ExprForm, ExprForms, SumForms, ProductForms, ArmForms, Additive, Multiplicative, enclosed}
use Rattle.tree_texts.specs.expressions.Names.{column_name}

-- what no well formed query has
abbrev pub unsaid : ExprForm
unsaid = f.null kinds.Boolean

-- ---- literals

-- the least integer is a difference, since its amount is no number of 64 bits
abbrev pub least : ExprForm
least = enclosed (f.added (enclosed (f.negative (f.integer 9223372036854775807))) f.minus (f.integer 1) f.no_terms)

abbrev pub signed : Bool → ℕ → ExprForm
signed false amount = f.integer amount
signed true amount = if amount == 9223372036854775808 then least else enclosed (f.negative (f.integer amount))

abbrev pub literal : Value → Kind → ExprForm
literal Null kind = f.null kind
literal (Integer number) kind = signed (is_negative number) (unsigned_abs number)
literal (Text spelled) kind = f.text spelled
literal (Boolean truth) kind = f.truth truth

-- ---- operators

abbrev pub others : List ExprForm → ExprForms
others [] = f.no_exprs
others (a ∷ more) = f.an_expr a (others more)

abbrev pub one_part : (ExprForm → ExprForm) → List ExprForm → ExprForm
one_part make [] = unsaid
one_part make (a ∷ []) = make a
one_part make (a ∷ b ∷ more) = unsaid

abbrev pub two_parts : (ExprForm → ExprForm → ExprForm) → List ExprForm → ExprForm
two_parts make [] = unsaid
two_parts make (a ∷ []) = unsaid
two_parts make (a ∷ b ∷ []) = make a b
two_parts make (a ∷ b ∷ c ∷ more) = unsaid

abbrev pub three_parts : (ExprForm → ExprForm → ExprForm → ExprForm) → List ExprForm → ExprForm
three_parts make [] = unsaid
three_parts make (a ∷ []) = unsaid
three_parts make (a ∷ b ∷ []) = unsaid
three_parts make (a ∷ b ∷ c ∷ []) = make a b c
three_parts make (a ∷ b ∷ c ∷ d ∷ more) = unsaid

abbrev pub several_parts : (ExprForm → ExprForm → ExprForms → ExprForm) → List ExprForm → ExprForm
several_parts make [] = unsaid
several_parts make (a ∷ []) = unsaid
several_parts make (a ∷ b ∷ more) = make a b (others more)

-- IN over one value is a comparison: some systems read it as a subquery where that value is one
abbrev pub among : List ExprForm → ExprForm
among [] = unsaid
among (a ∷ []) = unsaid
among (a ∷ b ∷ []) = enclosed (f.compared compare.Equal a b)
among (a ∷ b ∷ c ∷ more) = enclosed (f.in_list false a b (others (c ∷ more)))

-- COALESCE of one part is the part: SQLite wants two
abbrev pub first_known : List ExprForm → ExprForm
first_known [] = unsaid
first_known (a ∷ []) = a
first_known (a ∷ b ∷ more) = f.coalesce a (others (b ∷ more))

abbrev pub operated : Operator → List ExprForm → ExprForm
operated op.And parts = several_parts (λ a b more. enclosed (f.each_of a b more)) parts
operated op.Or parts = several_parts (λ a b more. enclosed (f.one_of a b more)) parts
operated op.Not parts = one_part (λ a. enclosed (f.negated a)) parts
operated op.Negate parts = one_part (λ a. enclosed (f.negative a)) parts
operated (op.Compare c) parts = two_parts (λ a b. enclosed (f.compared c a b)) parts
operated (op.Arith c) parts = unsaid
operated op.Like parts = two_parts (λ a b. enclosed (f.like false a b)) parts
operated op.Between parts = three_parts (λ a b c. enclosed (f.between false a b c)) parts
operated op.InList parts = among parts
operated op.Coalesce parts = first_known parts
operated op.NullIf parts = two_parts f.null_if parts

-- ---- chains, cases and tests

pub record StepForm : Type 0 where
  pub op : Arith
  pub part : ExprForm

abbrev pub additive_of : Arith → Additive
additive_of Add = f.plus
additive_of Subtract = f.minus
additive_of Multiply = f.minus
additive_of Divide = f.minus
additive_of Remainder = f.minus

abbrev pub multiplicative_of : Arith → Multiplicative
multiplicative_of Add = f.times
multiplicative_of Subtract = f.times
multiplicative_of Multiply = f.times
multiplicative_of Divide = f.divided
multiplicative_of Remainder = f.modulo

abbrev pub terms : List StepForm → SumForms
terms [] = f.no_terms
terms (step ∷ steps) = f.a_term (additive_of step.op) step.part (terms steps)

abbrev pub factors : List StepForm → ProductForms
factors [] = f.no_factors
factors (step ∷ steps) = f.a_factor (multiplicative_of step.op) step.part (factors steps)

-- the first step tells of which level all are
abbrev pub chain_of : Bool → ExprForm → StepForm → List StepForm → ExprForm
chain_of true a step steps = enclosed (f.added a (additive_of step.op) step.part (terms steps))
chain_of false a step steps = enclosed (f.multiplied a (multiplicative_of step.op) step.part (factors steps))

abbrev pub chained : ExprForm → List StepForm → ExprForm
chained a [] = a
chained a (step ∷ steps) = chain_of (is_additive step.op) a step steps

pub record ArmForm : Type 0 where
  pub condition : ExprForm
  pub value : ExprForm

abbrev pub arms_of : List ArmForm → ArmForms
arms_of [] = f.no_arms
arms_of (arm ∷ arms) = f.an_arm arm.condition arm.value (arms_of arms)

abbrev pub cases : List ArmForm → ExprForm → ExprForm
cases [] otherwise = otherwise
cases (arm ∷ arms) otherwise = f.case arm.condition arm.value (arms_of arms) otherwise

-- SQLite has no IS UNKNOWN; NOT of a value is NULL where its truth is unknown
abbrev pub truth_tested : Truth → ExprForm → ExprForm
truth_tested True a = enclosed (f.is_truth false True a)
truth_tested False a = enclosed (f.is_truth false False a)
truth_tested Unknown a = enclosed (f.is_null false (enclosed (f.negated a)))

-- ---- expressions

-- the form of an expression, where a query's own columns begin with a prefix and each sublink has its form
abbrev mutual
  pub shown_expr : List ℕ → List ExprForm → Expr → ExprForm
  shown_expr prefix subs (Col level place) = f.column (f.bare (column_name prefix level (place + 1)))
  shown_expr prefix subs (Lit v kind) = literal v kind
  shown_expr prefix subs (OpOf op _ parts) = operated op (shown_parts prefix subs parts)
  shown_expr prefix subs (ChainOf first _ steps) = chained (shown_expr prefix subs first) (shown_steps prefix subs steps)
  shown_expr prefix subs (CaseOf _ arms otherwise) = cases (shown_arms prefix subs arms) (shown_expr prefix subs otherwise)
  shown_expr prefix subs (Sub number) = slice_index_or subs number unsaid
  shown_expr prefix subs (IsNullOf part) = enclosed (f.is_null false (shown_expr prefix subs part))
  shown_expr prefix subs (IsTruthOf truth part) = truth_tested truth (shown_expr prefix subs part)
  shown_expr prefix subs (SameOf first second) = enclosed (f.is_distinct true (shown_expr prefix subs first) (shown_expr prefix subs second))

  pub shown_parts : List ℕ → List ExprForm → {m : _} → Row_of-Expr m → List ExprForm
  shown_parts prefix subs end_of-Expr = []
  shown_parts prefix subs (more_of-Expr part parts) = shown_expr prefix subs part ∷ shown_parts prefix subs parts

  pub shown_steps : List ℕ → List ExprForm → {m : _} → Row_of-ChainStep m → List StepForm
  shown_steps prefix subs end_of-ChainStep = []
  shown_steps prefix subs (more_of-ChainStep op part steps) =
      record { op = op; part = shown_expr prefix subs part } ∷ shown_steps prefix subs steps

  pub shown_arms : List ℕ → List ExprForm → {m : _} → Row_of-Arm m → List ArmForm
  shown_arms prefix subs end_of-Arm = []
  shown_arms prefix subs (more_of-Arm condition arm arms) =
      record { condition = shown_expr prefix subs condition; value = shown_expr prefix subs arm } ∷ shown_arms prefix subs arms

-- ---- sublinks that an expression doesn't use

-- never true
abbrev pub never : ExprForm → ExprForm
never sub = enclosed (f.is_null false (enclosed (f.is_null false sub)))

abbrev pub never_arms : Kind → List ExprForm → List ArmForm
never_arms kind [] = []
never_arms kind (sub ∷ subs) = record { condition = never sub; value = f.null kind } ∷ never_arms kind subs

-- an expression of a kind, beside which sublinks have their values too
abbrev pub beside : Kind → List ExprForm → ExprForm → ExprForm
beside kind subs a = cases (never_arms kind subs) a
