-- Worked examples of places, of their names and of what stands at them: over r(a INTEGER, b TEXT) and s(c INTEGER).
use Rattle.std.specs.Prelude.{◌≡◌, ℕ, true, List, [], ◌∷◌, ◌++◌, Some, None, refl, codes}
use Rattle.std.specs.Fmt.{decimal}
use Rattle.perm_values.specs.declared.kind.Kind.TheVariants as kind
use Rattle.perm_values.specs.declared.value.Value.TheVariants.{Text}
use Rattle.bag_algebra.specs.Kinds.{shape}
use Rattle.bag_algebra.specs.Meaning.{Database, witnesses}
use Rattle.bag_algebra.specs.Means.{Held, Empty}
use Rattle.bag_algebra.specs.built.Patterns.{BaseOf, FilterOf, ProjectOf, UnionOf}
use Rattle.bag_algebra.specs.PlaceNames.{place_names}
use Rattle.bag_algebra.specs.declared.expr.Expr.TheVariants.{Col, Sub}
use Rattle.bag_algebra.specs.declared.place.Place.{Place}
use Rattle.bag_algebra.specs.declared.query.Label.{Label}
use Rattle.bag_algebra.specs.declared.query.Label.TheVariants.{Relation, External}
use Rattle.bag_algebra.specs.declared.query.Query.{Query, more_of-Sublink, end_of-Sublink}
use Rattle.bag_algebra.specs.declared.query.Query.TheVariants.{Table, Single}
use Rattle.bag_algebra.specs.declared.query.SubKind.TheVariants.{Exists}
use Rattle.contribution.specs.HeldRows.{held_rows}
use Rattle.worked_examples.specs.Queries.{holding, int_and_text, num, r, s, x}

abbrev label_r : Label
label_r = Relation (codes "r") (codes "a" ∷ codes "b" ∷ [])

abbrev label_s : Label
label_s = Relation (codes "s") (codes "c" ∷ [])

abbrev place_r : Place
place_r = record { label = label_r; kinds = int_and_text }

abbrev place_s : Place
place_s = record { label = label_s; kinds = kind.Integer ∷ [] }

abbrev place_of_marks : Place
place_of_marks = record { label = External (codes "prov_old_z" ∷ []); kinds = kind.Text ∷ [] }

abbrev numbered : List ℕ → ℕ → List ℕ → List ℕ
numbered relation number column = codes "prov_" ++ relation ++ codes "_" ++ decimal number ++ codes "_" ++ column

-- the numbers count the places of one name; an external column keeps its name
pub names-of_places :
    place_names (place_r ∷ place_s ∷ place_r ∷ place_of_marks ∷ place_r ∷ place_s ∷ [])
    ≡ codes "prov_r_a" ∷ codes "prov_r_b" ∷ codes "prov_s_c" ∷ numbered (codes "r") 1 (codes "a") ∷ numbered (codes "r") 1 (codes "b") ∷ codes "prov_old_z"
    ∷ numbered (codes "r") 2 (codes "a") ∷ numbered (codes "r") 2 (codes "b") ∷ numbered (codes "s") 1 (codes "c") ∷ []
names-of_places = refl

-- SELECT a FROM r WHERE EXISTS (SELECT c FROM s)
abbrev exists_query : Query
exists_query =
    ProjectOf (FilterOf r (Sub 0) (tt ∷ []) (more_of-Sublink Exists None s end_of-Sublink))
    ((record { expr = Col 0 0; kind = kind.Integer }) ∷ []) [] end_of-Sublink

-- the place of the FROM item comes first, then that of the sublink
pub places-of_sublinks : shape exists_query ≡ place_r ∷ place_s ∷ []
places-of_sublinks = refl

abbrev data_of : Database
data_of = holding ((num 7 ∷ x ∷ []) ∷ []) ((num 3 ∷ []) ∷ (num 4 ∷ []) ∷ [])

pub rows-at_places :
    held_rows exists_query data_of (Some [])
    ≡ Some ((num 7 ∷ Text (codes "x") ∷ []) ∷ []) ∷ Some ((num 3 ∷ []) ∷ (num 4 ∷ []) ∷ []) ∷ []
rows-at_places = refl

pub lists-of_a_row :
    witnesses exists_query data_of [] (num 7 ∷ [])
    ≡ (Held (num 7 ∷ Text (codes "x") ∷ []) ∷ Held (num 3 ∷ []) ∷ []) ∷ (Held (num 7 ∷ Text (codes "x") ∷ []) ∷ Held (num 4 ∷ []) ∷ []) ∷ []
lists-of_a_row = refl

-- s UNION ALL a source without columns over s: the other side stays empty, with its width
pub lists-of_a_union :
    witnesses (UnionOf true s (BaseOf (Table 2 (kind.Integer ∷ [])) [] (External []))) data_of [] (num 3 ∷ [])
    ≡ (Held (num 3 ∷ []) ∷ Empty 0 ∷ []) ∷ (Empty 1 ∷ Held [] ∷ []) ∷ []
lists-of_a_union = refl

-- a source in a sublink that isn't over a table: nothing is said of its rows
pub rows-at_an_inner_source :
    held_rows (FilterOf Single (Sub 0) (tt ∷ []) (more_of-Sublink Exists None (BaseOf Single [] (External [])) end_of-Sublink)) data_of (Some [])
    ≡ None ∷ []
rows-at_an_inner_source = refl
