-- When the sublinks of two nodes ask the same on a row.
use Rattle.std.specs.Prelude.{◌≡◌, ⊤, List, [], ◌∷◌}
use Rattle.bag_algebra.specs.Bags.{Row}
use Rattle.bag_algebra.specs.Meaning.{Database, meaning}
use Rattle.bag_algebra.specs.Rewriting.{SameRows}
use Rattle.bag_algebra.specs.declared.query.Sublink.{Sublink}
use Rattle.query_laws.specs.SameExpressions.{SameOptional}

-- of one kind, with the same tested expression or none, over queries that have the same rows or faults on the row
pub record SubAgrees (db : Database) (env : List Row) (u : Row) (sub other : Sublink) : Type 0 where
  pub kind : sub.kind ≡ other.kind
  pub tested : SameOptional sub.tested other.tested
  pub rows : SameRows (meaning sub.query db (u ∷ env)) (meaning other.query db (u ∷ env))

-- one by one
abbrev pub SubsAgree : Database → List Row → Row → List Sublink → List Sublink → Type 0
SubsAgree db env u [] [] = ⊤
SubsAgree db env u [] (other ∷ others) = ⊥
SubsAgree db env u (sub ∷ subs) [] = ⊥
SubsAgree db env u (sub ∷ subs) (other ∷ others) = SubAgrees db env u sub other × SubsAgree db env u subs others
