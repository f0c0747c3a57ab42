-- What a law asks of a query and of what it meets: it is well formed under some outer kinds, and a database and outer
-- rows fit it.
use Rattle.std.specs.Prelude.{◌≡◌, true, List}
use Rattle.perm_values.specs.declared.kind.Kind.{Kind}
use Rattle.bag_algebra.specs.Bags.{Row}
use Rattle.bag_algebra.specs.Fits.{TablesFit, env_fits}
use Rattle.bag_algebra.specs.Meaning.{Database}
use Rattle.bag_algebra.specs.WellFormed.{WellFormed}
use Rattle.bag_algebra.specs.declared.query.Query.{Query}

pub record Fitting (outer : List (List Kind)) (q : Query) (db : Database) (env : List Row) : Type 0 where
  pub formed : WellFormed outer q
  pub tables : TablesFit db q
  pub outer_rows : env_fits env outer ≡ true
