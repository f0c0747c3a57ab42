-- Expressions that stand over literals alone: the same on every row, and of one kind everywhere.
use Rattle.std.specs.Prelude.{Bool, true, false, cond, ◌&&◌, Option, Some, None}
use Rattle.null_logic.specs.declared.operator.Operator.{Operator}
use Rattle.null_logic.specs.declared.operator.Operator.TheVariants as op
use Rattle.perm_values.specs.declared.kind.Kind.{Kind}
use Rattle.perm_values.specs.declared.kind.Kind.TheVariants.{Integer, Boolean}
use Rattle.bag_algebra.specs.built.Patterns.{OpOf, ChainOf, CaseOf, IsNullOf, IsTruthOf, SameOf}
use Rattle.bag_algebra.specs.declared.expr.Expr.{Expr, Row_of-Expr, Row_of-Arm, Row_of-ChainStep, more_of-Expr, end_of-Expr, more_of-Arm, end_of-Arm, more_of-ChainStep, end_of-ChainStep}
use Rattle.bag_algebra.specs.declared.expr.Expr.TheVariants.{Col, Lit, Sub}

abbrev pub is_literal : Expr → Bool
is_literal (Col level place) = false
is_literal (Lit v kind) = true
is_literal (OpOf op _ parts) = false
is_literal (ChainOf first _ steps) = false
is_literal (CaseOf _ arms otherwise) = false
is_literal (Sub number) = false
is_literal (IsNullOf part) = false
is_literal (IsTruthOf truth part) = false
is_literal (SameOf first second) = false

-- the kind of a literal; of anything else that of truths
abbrev pub literal_kind : Expr → Kind
literal_kind (Col level place) = Boolean
literal_kind (Lit v kind) = kind
literal_kind (OpOf op _ parts) = Boolean
literal_kind (ChainOf first _ steps) = Boolean
literal_kind (CaseOf _ arms otherwise) = Boolean
literal_kind (Sub number) = Boolean
literal_kind (IsNullOf part) = Boolean
literal_kind (IsTruthOf truth part) = Boolean
literal_kind (SameOf first second) = Boolean

-- the kind of what an operator gives whose first part is of that kind
abbrev pub kind_given : Operator → Kind → Kind
kind_given op.And first = Boolean
kind_given op.Or first = Boolean
kind_given op.Not first = Boolean
kind_given op.Negate first = Integer
kind_given (op.Compare c) first = Boolean
kind_given (op.Arith c) first = Integer
kind_given op.Like first = Boolean
kind_given op.Between first = Boolean
kind_given op.InList first = Boolean
kind_given op.Coalesce first = first
kind_given op.NullIf first = first

abbrev pub parts_literal : {m : _} → Row_of-Expr m → Bool
parts_literal end_of-Expr = true
parts_literal (more_of-Expr part parts) = is_literal part && parts_literal parts

abbrev pub steps_literal : {m : _} → Row_of-ChainStep m → Bool
steps_literal end_of-ChainStep = true
steps_literal (more_of-ChainStep op part steps) = is_literal part && steps_literal steps

abbrev pub arms_literal : {m : _} → Row_of-Arm m → Bool
arms_literal end_of-Arm = true
arms_literal (more_of-Arm condition arm arms) = (is_literal condition && is_literal arm) && arms_literal arms

abbrev pub kind_of_first : {m : _} → Row_of-Expr m → Kind
kind_of_first end_of-Expr = Boolean
kind_of_first (more_of-Expr part parts) = literal_kind part

-- the kind of what the expression gives, where all its parts are literals; none where some isn't, or there are no parts to look at
abbrev pub constant_kind : Expr → Option Kind
constant_kind (Col level place) = None
constant_kind (Lit v kind) = None
constant_kind (OpOf op _ parts) = cond (parts_literal parts) (Some (kind_given op (kind_of_first parts))) None
constant_kind (ChainOf first _ steps) = cond (is_literal first && steps_literal steps) (Some Integer) None
constant_kind (CaseOf _ arms otherwise) = cond (arms_literal arms && is_literal otherwise) (Some (literal_kind otherwise)) None
constant_kind (Sub number) = None
constant_kind (IsNullOf part) = cond (is_literal part) (Some Boolean) None
constant_kind (IsTruthOf truth part) = cond (is_literal part) (Some Boolean) None
constant_kind (SameOf first second) = cond (is_literal first && is_literal second) (Some Boolean) None
