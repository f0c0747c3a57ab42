-- Which databases and outer rows a query may meet.
use Rattle.std.specs.Prelude.{◌≡◌, Bool, true, false, ◌&&◌, List, [], ◌∷◌}
pub use Rattle.perm_values.specs.Rows.{bag_fits}
use Rattle.perm_values.specs.Values.{fits}
use Rattle.perm_values.specs.declared.kind.Kind.{Kind}
use Rattle.bag_algebra.specs.Bags.{Row}
use Rattle.bag_algebra.specs.Meaning.{Database}
use Rattle.bag_algebra.specs.TablesRead.{EachTable, EachSubTable}
use Rattle.bag_algebra.specs.declared.query.Query.{Query, Row_of-Sublink}

-- the first values have these kinds; more may follow
abbrev pub row_begins : Row → List Kind → Bool
row_begins row [] = true
row_begins [] (kind ∷ kinds) = false
row_begins (v ∷ row) (kind ∷ kinds) = fits v kind && row_begins row kinds

-- a row for each of the outer kinds, whose first values have them; more rows may follow
abbrev pub env_fits : List Row → List (List Kind) → Bool
env_fits env [] = true
env_fits [] (kinds ∷ outer) = false
env_fits (row ∷ env) (kinds ∷ outer) = row_begins row kinds && env_fits env outer

-- each table of the query, those of sublinks included, has rows of exactly its kinds
abbrev pub TablesFit : Database → Query → Type 0
TablesFit db q = EachTable (λ id kinds. bag_fits (db id) kinds ≡ true) q

abbrev pub SubTablesFit : Database → {m : _} → Row_of-Sublink m → Type 0
SubTablesFit db subs = EachSubTable (λ id kinds. bag_fits (db id) kinds ≡ true) subs
