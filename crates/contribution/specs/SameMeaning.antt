-- When two databases hold the same bags for a query, and when two queries mean the same up to the order of rows and lists.
use Rattle.std.specs.Prelude.{◌≡◌, List, Contains}
use Rattle.bag_algebra.specs.Bags.{Row, SameBag}
use Rattle.bag_algebra.specs.Meaning.{Database}
use Rattle.bag_algebra.specs.Means.{Means}
use Rattle.bag_algebra.specs.Rewriting.{SameRows}
use Rattle.bag_algebra.specs.TablesRead.{EachTable}
use Rattle.bag_algebra.specs.declared.query.Query.{Query}

-- the same bag for each table that the query reads
abbrev pub SameTables : Database → Database → Query → Type 0
SameTables db other q = EachTable (λ id kinds. SameBag (db id) (other id)) q

-- the same rows in the same order for each table that the query reads
abbrev pub EqualTables : Database → Database → Query → Type 0
EqualTables db other q = EachTable (λ id kinds. db id ≡ other id) q

-- what is in the one list is in the other
pub record SameMembers {X : Type 0} (xs ys : List X) : Type 0 where
  pub there : (x : X) → Contains xs x → Contains ys x
  pub back : (x : X) → Contains ys x → Contains xs x

-- the same rows, and the same witness lists of each row
pub record SameMeaning (m n : Means) : Type 0 where
  pub rows : SameRows m.rows n.rows
  pub lists : (t : Row) → SameMembers (m.lists t) (n.lists t)
