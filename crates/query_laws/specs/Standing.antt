-- When the sublinks of one node stand for those of another.
use Rattle.std.specs.Prelude.{◌≡◌, ⊤, List, [], ◌∷◌}
use Rattle.bag_algebra.specs.Rewriting.{Stands}
use Rattle.bag_algebra.specs.declared.query.Sublink.{Sublink}
use Rattle.query_laws.specs.SameExpressions.{SameOptional}

-- of one kind, with the same tested expression or none, over a query that stands for the other's
pub record SubStands (sub other : Sublink) : Type 0 where
  pub kind : sub.kind ≡ other.kind
  pub tested : SameOptional sub.tested other.tested
  pub query : Stands sub.query other.query

-- one by one
abbrev pub SubsStand : List Sublink → List Sublink → Type 0
SubsStand [] [] = ⊤
SubsStand [] (other ∷ others) = ⊥
SubsStand (sub ∷ subs) [] = ⊥
SubsStand (sub ∷ subs) (other ∷ others) = SubStands sub other × SubsStand subs others
