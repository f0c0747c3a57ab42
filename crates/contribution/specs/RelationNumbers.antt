-- How many places of each relation there are, in a map from names.
use Rattle.std.specs.Prelude.{◌≡◌, ℕ, cond, List, [], ◌∷◌, Some, unwrap_or, nat_eq}
use Rattle.std.specs.Cmp.Lexicographic.{pointwise}
use Rattle.std.specs.List.{count_by}
use Rattle.std.specs.Map.{lookup}
use Rattle.bag_algebra.specs.declared.query.Label.{Label}
use Rattle.bag_algebra.specs.declared.query.Label.TheVariants.{Relation, External}

-- the number at a name, 0 where there is none
abbrev pub number_in : List (List ℕ × ℕ) → List ℕ → ℕ
number_in entries name = unwrap_or (lookup (pointwise nat_eq name) entries) 0

-- a map has for each name how often it stands among the names
pub record Numbers (entries : List (List ℕ × ℕ)) (names : List (List ℕ)) : Type 0 where
  pub numbers : (name : List ℕ) → number_in entries name ≡ count_by (pointwise nat_eq name) names

-- a map has the number at the name, and at all others what it had
pub record HasPut (old new : List (List ℕ × ℕ)) (name : List ℕ) (number : ℕ) : Type 0 where
  pub put : (q : List ℕ) → lookup (pointwise nat_eq q) new ≡ cond (pointwise nat_eq name q) (Some number) (lookup (pointwise nat_eq q) old)

-- how often the relation of a label stands among the names
abbrev pub earlier_places : List (List ℕ) → Label → ℕ
earlier_places names (Relation name columns) = count_by (pointwise nat_eq name) names
earlier_places names (External columns) = 0
