-- Sublinks of a filter over columns of a query, over the rows of that query.
use Rattle.std.specs.Prelude.{◌≡◌, ⊤, ℕ, ◌<◌, Bool, true, ◌&&◌, nat_le, List, [], ◌∷◌, Option, Some, None, slice_get}
use Rattle.bag_algebra.specs.declared.expr.Expr.{Expr}
use Rattle.bag_algebra.specs.declared.query.Sublink.{Sublink}
use Rattle.contribution.specs.MovedColumns.{Along, IsMoved}
use Rattle.query_facts.specs.reached.Reach.{reach_of}

-- so many of the places are those of the first columns, in their order
abbrev pub Leads : ℕ → List ℕ → Type 0
Leads n order = (k : ℕ) → k < n → slice_get order k ≡ Some k

-- of the node's row the sublinks' queries read so many of the first columns at most
abbrev pub all_reach : ℕ → List Sublink → Bool
all_reach n [] = true
all_reach n (sub ∷ subs) = nat_le (reach_of sub.query) n && all_reach n subs

abbrev pub TestedMoved : List ℕ → Option Expr → Option Expr → Type 0
TestedMoved order None None = ⊤
TestedMoved order None (Some part) = ⊥
TestedMoved order (Some part) None = ⊥
TestedMoved order (Some part) (Some moved) = IsMoved order part moved

-- the same sublink, but that its operand is moved
pub record IsCarried (order : List ℕ) (sub other : Sublink) : Type 0 where
  pub kind : sub.kind ≡ other.kind
  pub tested : TestedMoved order sub.tested other.tested
  pub query : sub.query ≡ other.query

abbrev pub AllCarried : List ℕ → List Sublink → List Sublink → Type 0
AllCarried order subs others = Along (IsCarried order) subs others
