-- Conditions on the rows of a table that a query may read.
use Rattle.std.specs.Prelude.{◌≡◌, ℕ, [], ◌∷◌, Option, Some, None}
use Rattle.perm_values.specs.declared.kind.Kind.TheVariants.{Boolean}
use Rattle.bag_algebra.specs.TablesRead.{EachTable}
use Rattle.bag_algebra.specs.WellFormed.{HasKind}
use Rattle.bag_algebra.specs.declared.expr.Expr.{Expr}
use Rattle.bag_algebra.specs.declared.query.Query.{Query}

-- on the kinds of each table of this identity the condition is a truth, without sublinks and without columns of outer rows
abbrev pub ConditionFits : ℕ → Option Expr → Query → Type 0
ConditionFits id None q = Unit {0}
ConditionFits id (Some condition) q = EachTable (λ other kinds. other ≡ id → HasKind (kinds ∷ []) [] condition Boolean) q
