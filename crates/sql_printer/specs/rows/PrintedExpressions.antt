-- What the text of an expression is read as: what is printed in another form is read in that form, a column stands behind those that
-- nothing reads, and the sublinks are numbered as they are used in the text.
use Rattle.std.specs.Prelude.{ℕ, zero, suc, ◌+◌, pos, Bool, true, false, if◌then◌else◌, List, [], ◌∷◌, ◌++◌, map, length, slice_index_or, unsigned_abs, ◌==◌}
use Rattle.std.specs.Int.{is_negative}
use Rattle.std.specs.List.{range_with_len}
use Rattle.null_logic.specs.declared.arith.Arith.TheVariants.{Subtract}
use Rattle.null_logic.specs.declared.compare.Compare.TheVariants.{Equal}
use Rattle.null_logic.specs.declared.operator.Operator.{Operator}
use Rattle.null_logic.specs.declared.operator.Operator.TheVariants as op
use Rattle.null_logic.specs.declared.truth.Truth.{Truth}
use Rattle.null_logic.specs.declared.truth.Truth.TheVariants.{True, False, Unknown}
use Rattle.perm_values.specs.declared.kind.Kind.{Kind}
use Rattle.perm_values.specs.declared.kind.Kind.TheVariants as kinds
use Rattle.perm_values.specs.declared.value.Value.{Value}
use Rattle.perm_values.specs.declared.value.Value.TheVariants.{Null, Integer, Text, Boolean}
use Rattle.bag_algebra.specs.built.Patterns.{OpOf, ChainOf, CaseOf, IsNullOf, IsTruthOf, SameOf}
use Rattle.bag_algebra.specs.declared.expr.Arm.{Arm}
use Rattle.bag_algebra.specs.declared.expr.ChainStep.{ChainStep}
use Rattle.bag_algebra.specs.declared.expr.Expr.{Expr, Row_of-Expr, Row_of-Arm, Row_of-ChainStep, more_of-Expr, end_of-Expr, more_of-Arm, end_of-Arm, more_of-ChainStep, end_of-ChainStep}
use Rattle.bag_algebra.specs.declared.expr.Expr.TheVariants.{Col, Lit, Op, Chain, Case, Sub, IsNull, IsTruth, Same}

-- ---- which sublinks are used, in the order of the text

abbrev mutual
  pub asked_in : Expr → List ℕ
  asked_in (Col level place) = []
  asked_in (Lit v kind) = []
  asked_in (OpOf op _ parts) = asked_in_parts parts
  asked_in (ChainOf first _ steps) = asked_in first ++ asked_in_steps steps
  asked_in (CaseOf _ arms otherwise) = asked_in_arms arms ++ asked_in otherwise
  asked_in (Sub number) = number ∷ []
  asked_in (IsNullOf part) = asked_in part
  asked_in (IsTruthOf truth part) = asked_in part
  asked_in (SameOf first second) = asked_in first ++ asked_in second

  pub asked_in_parts : {m : _} → Row_of-Expr m → List ℕ
  asked_in_parts end_of-Expr = []
  asked_in_parts (more_of-Expr part parts) = asked_in part ++ asked_in_parts parts

  pub asked_in_steps : {m : _} → Row_of-ChainStep m → List ℕ
  asked_in_steps end_of-ChainStep = []
  asked_in_steps (more_of-ChainStep op part steps) = asked_in part ++ asked_in_steps steps

  pub asked_in_arms : {m : _} → Row_of-Arm m → List ℕ
  asked_in_arms end_of-Arm = []
  asked_in_arms (more_of-Arm condition arm arms) = asked_in condition ++ (asked_in arm ++ asked_in_arms arms)

-- ---- other forms

abbrev pub integer : ℕ → Expr
integer number = Lit (Integer (pos number)) kinds.Integer

abbrev pub negative : ℕ → Expr
negative amount = Op op.Negate (integer amount ∷ [])

abbrev pub least : Expr
least = Chain (negative 9223372036854775807) (record { op = Subtract; part = integer 1 } ∷ [])

abbrev pub printed_integer : Bool → ℕ → Expr
printed_integer false amount = integer amount
printed_integer true amount = if amount == 9223372036854775808 then least else negative amount

abbrev pub printed_literal : Value → Kind → Expr
printed_literal Null kind = Lit Null kind
printed_literal (Integer number) kind = printed_integer (is_negative number) (unsigned_abs number)
printed_literal (Text spelled) kind = Lit (Text spelled) kinds.Text
printed_literal (Boolean truth) kind = Lit (Boolean truth) kinds.Boolean

abbrev pub among : List Expr → Expr
among [] = Op op.InList []
among (a ∷ []) = Op op.InList (a ∷ [])
among (a ∷ b ∷ []) = Op (op.Compare Equal) (a ∷ b ∷ [])
among (a ∷ b ∷ c ∷ more) = Op op.InList (a ∷ b ∷ c ∷ more)

abbrev pub first_known : List Expr → Expr
first_known [] = Op op.Coalesce []
first_known (a ∷ []) = a
first_known (a ∷ b ∷ more) = Op op.Coalesce (a ∷ b ∷ more)

abbrev pub printed_operator : Operator → List Expr → Expr
printed_operator op.And parts = Op op.And parts
printed_operator op.Or parts = Op op.Or parts
printed_operator op.Not parts = Op op.Not parts
printed_operator op.Negate parts = Op op.Negate parts
printed_operator (op.Compare c) parts = Op (op.Compare c) parts
printed_operator (op.Arith c) parts = Op (op.Arith c) parts
printed_operator op.Like parts = Op op.Like parts
printed_operator op.Between parts = Op op.Between parts
printed_operator op.InList parts = among parts
printed_operator op.Coalesce parts = first_known parts
printed_operator op.NullIf parts = Op op.NullIf parts

abbrev pub printed_test : Truth → Expr → Expr
printed_test True a = IsTruth True a
printed_test False a = IsTruth False a
printed_test Unknown a = IsNull (Op op.Not (a ∷ []))

-- ---- columns

-- how many columns that nothing reads stand before those of a row, the node's own first
abbrev pub before : List ℕ → ℕ → ℕ
before unread level = slice_index_or unread level 0

-- ---- the whole

-- the expression whose first sublink has this number
abbrev mutual
  pub printed_expr : List ℕ → ℕ → Expr → Expr
  printed_expr unread n (Col level place) = Col level (before unread level + place)
  printed_expr unread n (Lit v kind) = printed_literal v kind
  printed_expr unread n (OpOf op _ parts) = printed_operator op (printed_parts unread n parts)
  printed_expr unread n (ChainOf first _ steps) =
      Chain (printed_expr unread n first) (printed_steps unread (n + length (asked_in first)) steps)
  printed_expr unread n (CaseOf _ arms otherwise) =
      Case (printed_arms unread n arms) (printed_expr unread (n + length (asked_in_arms arms)) otherwise)
  printed_expr unread n (Sub number) = Sub n
  printed_expr unread n (IsNullOf part) = IsNull (printed_expr unread n part)
  printed_expr unread n (IsTruthOf truth part) = printed_test truth (printed_expr unread n part)
  printed_expr unread n (SameOf first second) =
      Same (printed_expr unread n first) (printed_expr unread (n + length (asked_in first)) second)

  pub printed_parts : List ℕ → ℕ → {m : _} → Row_of-Expr m → List Expr
  printed_parts unread n end_of-Expr = []
  printed_parts unread n (more_of-Expr part parts) =
      printed_expr unread n part ∷ printed_parts unread (n + length (asked_in part)) parts

  pub printed_steps : List ℕ → ℕ → {m : _} → Row_of-ChainStep m → List ChainStep
  printed_steps unread n end_of-ChainStep = []
  printed_steps unread n (more_of-ChainStep op part steps) =
      record { op = op; part = printed_expr unread n part } ∷ printed_steps unread (n + length (asked_in part)) steps

  pub printed_arms : List ℕ → ℕ → {m : _} → Row_of-Arm m → List Arm
  printed_arms unread n end_of-Arm = []
  printed_arms unread n (more_of-Arm condition arm arms) =
      let value_from = n + length (asked_in condition) in
      record { condition = printed_expr unread n condition; value = printed_expr unread value_from arm }
      ∷ printed_arms unread (value_from + length (asked_in arm)) arms

-- ---- sublinks that an expression doesn't use

-- never chosen
abbrev pub never : Kind → ℕ → Arm
never kind number = record { condition = IsNull (IsNull (Sub number)); value = Lit Null kind }

-- so many sublinks stand beside an expression of a kind
abbrev pub beside : Kind → ℕ → Expr → Expr
beside kind zero e = e
beside kind (suc count) e = Case (map (never kind) (range_with_len 0 (suc count))) e
