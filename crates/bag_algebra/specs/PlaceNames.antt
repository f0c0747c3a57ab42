-- The names of provenance columns (that they are made like this is this project's own).
use Rattle.std.specs.Prelude.{ℕ, zero, suc, List, [], ◌∷◌, ◌++◌, map, nat_eq, codes}
use Rattle.std.specs.Cmp.Lexicographic.{pointwise}
use Rattle.std.specs.Fmt.{decimal}
use Rattle.std.specs.List.{count_by}
use Rattle.bag_algebra.specs.declared.place.Place.{Place}
use Rattle.bag_algebra.specs.declared.query.Label.{Label}
use Rattle.bag_algebra.specs.declared.query.Label.TheVariants.{Relation, External}

-- the column of a relation's place: the nth further place of the same label has the number n in its names
abbrev pub place_name : List ℕ → ℕ → List ℕ → List ℕ
place_name name zero column = codes "prov_" ++ name ++ codes "_" ++ column
place_name name (suc n) column = codes "prov_" ++ name ++ codes "_" ++ decimal (suc n) ++ codes "_" ++ column

abbrev pub relations_of : Place → List (List ℕ)
relations_of place = elim place.label [ Relation name columns ↦ name ∷ [] | External columns ↦ [] ]

-- the names of a place's columns, behind places of these relations; external columns keep their names
abbrev pub label_names : List (List ℕ) → Label → List (List ℕ)
label_names earlier (Relation name columns) = map (place_name name (count_by (pointwise nat_eq name) earlier)) columns
label_names earlier (External columns) = columns

abbrev pub names_behind : List (List ℕ) → List Place → List (List ℕ)
names_behind earlier [] = []
names_behind earlier (place ∷ places) = label_names earlier place.label ++ names_behind (earlier ++ relations_of place) places

-- the names of all places' columns, in order
abbrev pub place_names : List Place → List (List ℕ)
place_names places = names_behind [] places
