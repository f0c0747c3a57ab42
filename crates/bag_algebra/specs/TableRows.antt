-- The rows of tables by their identities, as a database that queries mean something on.
use Rattle.std.specs.Prelude.{[], unwrap_or}
use Rattle.std.specs.FinMap as map
use Rattle.std.specs.FinMap.{FinMap}
use Rattle.std.specs.Ordering.{nat_cmp}
use Rattle.bag_algebra.specs.Bags.{Bag}
use Rattle.bag_algebra.specs.Meaning.{Database}

-- the rows of an identity, none where it isn't held
abbrev pub rows_in : FinMap nat_cmp Bag → Database
rows_in tables id = unwrap_or (map.get tables id) []
