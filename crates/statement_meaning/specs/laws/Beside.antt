-- A row of a query beside one of its witness lists.
use Rattle.std.specs.Prelude.{◌≡◌, List, ◌++◌, Contains}
use Rattle.bag_algebra.specs.Bags.{Row, Bag}
use Rattle.bag_algebra.specs.Meaning.{Database, witnesses}
use Rattle.bag_algebra.specs.Means.{Witness, flat}
use Rattle.bag_algebra.specs.declared.query.Query.{Query}
use Rattle.query_laws.specs.Holding.{InBag}

-- x is a row of the bag, which q means, followed by one of that row's witness lists, written out flat
abbrev pub IsBeside : Query → Database → List Row → Bag → Row → Type 0
IsBeside q db env bag x = (t : Row) × (w : Witness) × InBag t bag × Contains (witnesses q db env t) w × (t ++ flat w ≡ x)
