-- Names among others.
use Rattle.std.specs.Prelude.{ℕ, Bool, List, nat_eq}
use Rattle.std.specs.Cmp.Lexicographic.{pointwise}
use Rattle.std.specs.List.{list_any}

abbrev pub is_named : List (List ℕ) → List ℕ → Bool
is_named names name = list_any (pointwise nat_eq name) names
