-- When an expression may stand in another's place: the columns, the outer rows and the answers of the sublinks give both one
-- value or the same faults, and it has the kinds that the other has.
use Rattle.std.specs.Prelude.{◌≡◌, ⊤, List, [], ◌∷◌, Option, None, Some}
use Rattle.perm_values.specs.declared.kind.Kind.{Kind}
use Rattle.perm_values.specs.declared.value.Value.{Value}
use Rattle.bag_algebra.specs.Bags.{Row}
use Rattle.bag_algebra.specs.Expressions.{value}
use Rattle.bag_algebra.specs.WellFormed.{HasKind}
use Rattle.bag_algebra.specs.declared.expr.Expr.{Expr}
use Rattle.bag_algebra.specs.declared.expr.Item.{Item}
use Rattle.bag_algebra.specs.declared.query.Aggr.{Aggr}

-- on every row, under all outer rows and for all answers of sublinks; and in all scopes
pub record SameExpr (e f : Expr) : Type 0 where
  pub value : (u : Row) (env : List Row) (subs : List Value) → value e u env subs ≡ value f u env subs
  pub kind : (scopes : List (List Kind)) (subs : List Kind) (k : Kind) → HasKind scopes subs e k → HasKind scopes subs f k

-- both are left out, or neither is
abbrev pub SameOptional : Option Expr → Option Expr → Type 0
SameOptional None None = ⊤
SameOptional None (Some f) = ⊥
SameOptional (Some e) None = ⊥
SameOptional (Some e) (Some f) = SameExpr e f

pub record SameItem (item other : Item) : Type 0 where
  pub kind : item.kind ≡ other.kind
  pub expr : SameExpr item.expr other.expr

-- one by one
abbrev pub SameItems : List Item → List Item → Type 0
SameItems [] [] = ⊤
SameItems [] (other ∷ others) = ⊥
SameItems (item ∷ items) [] = ⊥
SameItems (item ∷ items) (other ∷ others) = SameItem item other × SameItems items others

pub record SameAggregate (aggregate other : Aggr) : Type 0 where
  pub function : aggregate.function ≡ other.function
  pub kind : aggregate.kind ≡ other.kind
  pub argument : SameOptional aggregate.argument other.argument

-- one by one
abbrev pub SameAggregates : List Aggr → List Aggr → Type 0
SameAggregates [] [] = ⊤
SameAggregates [] (other ∷ others) = ⊥
SameAggregates (aggregate ∷ aggregates) [] = ⊥
SameAggregates (aggregate ∷ aggregates) (other ∷ others) = SameAggregate aggregate other × SameAggregates aggregates others
