-- Tables of a catalog, where nothing else is.
use Rattle.perm_catalog.specs.Contents.{Contents}
use Rattle.perm_catalog.specs.Sound.{IsSound}
use Rattle.statement_meaning.specs.explains.Explains.{AreTablesOf}

-- a sound catalog that holds no view, and tables of the other alone
pub record IsAlone (c alone : Contents) : Type 0 where
  pub sound : IsSound alone
  pub are : AreTablesOf c alone
