-- The kind of an argument, as it is printed.
use Rattle.std.proofs.Common.{◌≡◌, ◌≤◌, List, [], unwrap_or, sym, ap, arith}
use Rattle.std.proofs.lemmas.Option.{none-some}
use Rattle.null_logic.specs.declared.operator.Operator.TheVariants as op
use Rattle.perm_values.specs.declared.kind.Kind.{Kind}
use Rattle.perm_values.specs.declared.kind.Kind.TheVariants as kinds
use Rattle.bag_algebra.specs.WellFormed.{HasKind, PartsHave, number_of_parts}
use Rattle.bag_algebra.specs.built.Patterns.{OpOf, ChainOf, CaseOf, IsNullOf, IsTruthOf, SameOf}
use Rattle.bag_algebra.specs.declared.expr.Expr.{Expr, Row_of-Expr, more_of-Expr, end_of-Expr}
use Rattle.bag_algebra.specs.declared.expr.Expr.TheVariants.{Col, Lit, Sub}
use Rattle.sql_printer.specs.rows.Printed.{first_kind, kind_of}

module _ (scopes : List (List Kind)) where
  mutual
    pub kind-is : (e : Expr) (kind : Kind) → HasKind scopes [] e kind → kind_of scopes e ≡ kind
    kind-is (Col level place) kind h = ap (λ found. unwrap_or found kinds.Text) h
    kind-is (Lit v own) kind h = sym h.gives
    kind-is (OpOf op.And _ parts) kind h = sym h.gives
    kind-is (OpOf op.Or _ parts) kind h = sym h.gives
    kind-is (OpOf op.Not _ parts) kind h = sym h.gives
    kind-is (OpOf op.Negate _ parts) kind h = sym h.gives
    kind-is (OpOf (op.Compare c) _ parts) kind h = sym h.gives
    kind-is (OpOf (op.Arith c) _ parts) kind h = absurd h
    kind-is (OpOf op.Like _ parts) kind h = sym h.gives
    kind-is (OpOf op.Between _ parts) kind h = sym h.gives
    kind-is (OpOf op.InList _ parts) kind h = sym h.gives
    kind-is (OpOf op.Coalesce _ parts) kind h = first-is parts kind h.number h.parts
    kind-is (OpOf op.NullIf _ parts) kind h = let two = h.number in first-is parts kind (omega (arith, two)) h.parts
    kind-is (ChainOf first _ steps) kind h = sym h.gives
    kind-is (CaseOf _ arms otherwise) kind h = kind-is otherwise kind h.otherwise
    kind-is (Sub number) kind h = absurd (none-some kind h)
    kind-is (IsNullOf part) kind h = sym h.gives
    kind-is (IsTruthOf truth part) kind h = sym h.gives
    kind-is (SameOf first second) kind h = sym h.gives

    first-is : {m : _} (parts : Row_of-Expr m) (kind : Kind) → 1 ≤ number_of_parts parts → PartsHave scopes [] parts kind → first_kind scopes parts ≡ kind
    first-is end_of-Expr kind low h = absurd (omega (arith, low))
    first-is (more_of-Expr part parts) kind low h = kind-is part kind h.0
