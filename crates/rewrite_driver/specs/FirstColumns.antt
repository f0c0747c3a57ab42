-- PROVENANCE loses no row: its first columns are, as a set, the rows of its query (Glavic and Alonso, ICDE 2009).
use Rattle.std.specs.Prelude.{◌≡◌, ◌↔◌, List, IsTrue, take}
use Rattle.perm_values.specs.declared.kind.Kind.{Kind}
use Rattle.bag_algebra.specs.Bags.{Row, Bag, member}
use Rattle.bag_algebra.specs.Kinds.{width_of}
use Rattle.bag_algebra.specs.Meaning.{Database, meaning}
use Rattle.bag_algebra.specs.Outcome.{Good}
use Rattle.bag_algebra.specs.declared.query.Query.{Query}
use Rattle.contribution.specs.Fitting.{Fitting}

-- whatever fits, where both are good: a row is one of the query's exactly where it stands in the first columns of a row of
-- the other's
abbrev pub KeepsRows : Query → Query → Type 0
KeepsRows q other = (outer : List (List Kind)) (db : Database) (env : List Row) (bag found : Bag) → Fitting outer q db env →
    meaning q db env ≡ Good bag → meaning other db env ≡ Good found →
    (t : Row) → IsTrue (member t bag) ↔ ((u : Row) × IsTrue (member u found) × (take (width_of q) u ≡ t))
