-- Whether a query has a place: whether PROVENANCE of it has columns of its own.
use Rattle.std.specs.Prelude.{Bool, true, false, List, [], ◌∷◌}
use Rattle.bag_algebra.specs.Kinds.{shape}
use Rattle.bag_algebra.specs.declared.place.Place.{Place}
use Rattle.bag_algebra.specs.declared.query.Query.{Query}

abbrev pub is_some_place : List Place → Bool
is_some_place [] = false
is_some_place (place ∷ places) = true

abbrev pub has_places : Query → Bool
has_places q = is_some_place (shape q)
