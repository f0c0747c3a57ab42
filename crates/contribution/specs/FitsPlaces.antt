-- A witness list that has one entry for each place: a row of the place's kinds, or nothing of its width.
use Rattle.std.specs.Prelude.{◌≡◌, true, List, [], ◌∷◌, length}
use Rattle.perm_values.specs.Rows.{row_fits}
use Rattle.bag_algebra.specs.Bags.{Row}
use Rattle.bag_algebra.specs.Means.{Held, Empty, Witness}
use Rattle.bag_algebra.specs.declared.place.Place.{Place}

pub data FitsPlaces : List Place → Witness → Type 0 where
  no_place : FitsPlaces [] []
  held : {places : List Place} {entries : Witness} (place : Place) (row : Row) →
      row_fits row place.kinds ≡ true → FitsPlaces places entries → FitsPlaces (place ∷ places) (Held row ∷ entries)
  empty : {places : List Place} {entries : Witness} (place : Place) →
      FitsPlaces places entries → FitsPlaces (place ∷ places) (Empty (length place.kinds) ∷ entries)
