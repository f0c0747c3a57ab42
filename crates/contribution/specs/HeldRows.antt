-- What stands at the places of a query's witness lists: at the place of a source nothing, or one of the source's rows.
use Rattle.std.specs.Prelude.{◌≡◌, ℕ, List, [], ◌∷◌, ◌++◌, map, length, Option, Some, None, IfSome, IsTrue}
use Rattle.perm_values.specs.Rows.{picked}
use Rattle.bag_algebra.specs.Bags.{Row, Bag, member}
use Rattle.bag_algebra.specs.Meaning.{Database, meaning}
use Rattle.bag_algebra.specs.Means.{Entry, Held, Empty, Witness, good_rows}
use Rattle.bag_algebra.specs.built.Patterns.{BaseOf, FilterOf, ProjectOf, JoinOf, ApplyOf, UnionOf, IntersectOf, ExceptOf, DistinctOf, AggregateOf, LimitOf, ProvOf}
use Rattle.bag_algebra.specs.declared.place.Place.{Place}
use Rattle.bag_algebra.specs.declared.query.Query.{Query, Row_of-Sublink, more_of-Sublink, end_of-Sublink}
use Rattle.bag_algebra.specs.declared.query.Query.TheVariants.{Table, Single}

-- the rows of a table
abbrev pub table_rows : Query → Database → Option Bag
table_rows (Table id kinds) db = Some (db id)
table_rows other db = None

-- the rows of a source's input: outside all sublinks and the right sides of dependent joins, where the outer rows are
-- told, those that it means under them; inside one those of a table, while nothing is said of another input there, which
-- means something else on each row of the node
abbrev pub input_rows : Query → Database → Option (List Row) → Option Bag
input_rows input db (Some env) = Some (good_rows (meaning input db env))
input_rows input db None = table_rows input db

abbrev pub restricted : List ℕ → Option Bag → Option Bag
restricted places (Some bag) = Some (map (picked places) bag)
restricted places None = None

abbrev mutual
  -- for each place in order the rows of its source's input restricted to the source's places, where something is said
  -- of them
  pub held_rows : Query → Database → Option (List Row) → List (Option Bag)
  held_rows (Table id kinds) db env = []
  held_rows Single db env = []
  held_rows (BaseOf input places label) db env = restricted places (input_rows input db env) ∷ []
  held_rows (FilterOf input condition _ subs) db env = held_rows input db env ++ sub_held_rows subs db
  held_rows (ProjectOf input items _ subs) db env = held_rows input db env ++ sub_held_rows subs db
  held_rows (JoinOf kind left right condition _ subs) db env = held_rows left db env ++ held_rows right db env ++ sub_held_rows subs db
  held_rows (ApplyOf kind left right) db env = held_rows left db env ++ held_rows right db None
  held_rows (UnionOf all left right) db env = held_rows left db env ++ held_rows right db env
  held_rows (IntersectOf all left right) db env = held_rows left db env ++ held_rows right db env
  held_rows (ExceptOf all left right) db env = held_rows left db env ++ held_rows right db env
  held_rows (DistinctOf input) db env = held_rows input db env
  held_rows (AggregateOf input groups aggregates) db env = held_rows input db env
  held_rows (LimitOf input keys count) db env = held_rows input db env
  held_rows (ProvOf input) db env = []

  pub sub_held_rows : {m : _} → Row_of-Sublink m → Database → List (Option Bag)
  sub_held_rows end_of-Sublink db = []
  sub_held_rows (more_of-Sublink kind tested query subs) db = held_rows query db None ++ sub_held_rows subs db

-- an entry of a place: nothing, or one of its rows; and it has the place's width
abbrev pub StandsAt : Place → Option Bag → Entry → Type 0
StandsAt place rows (Held row) = (length row ≡ length place.kinds) × IfSome rows (λ bag. IsTrue (member row bag))
StandsAt place rows (Empty width) = width ≡ length place.kinds

-- one entry at each place
abbrev pub StandAt : List Place → List (Option Bag) → Witness → Type 0
StandAt [] [] [] = Unit {0}
StandAt [] [] (entry ∷ entries) = ⊥
StandAt [] (rows ∷ more) entries = ⊥
StandAt (place ∷ places) [] entries = ⊥
StandAt (place ∷ places) (rows ∷ more) [] = ⊥
StandAt (place ∷ places) (rows ∷ more) (entry ∷ entries) = StandsAt place rows entry × StandAt places more entries
