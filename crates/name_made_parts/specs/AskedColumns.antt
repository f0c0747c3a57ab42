-- What the first pass shows of a query, as the second takes it.
use Rattle.std.specs.Prelude.{◌≡◌, List}
use Rattle.perm_values.specs.declared.kind.Kind.{Kind}
use Rattle.name_meaning.specs.Cores.{settle_known}
use Rattle.name_meaning.specs.Meanings.{QueryMeant}
use Rattle.name_meaning.specs.nodes.Chained.{Serves}

-- the kinds of its columns, where those of any take the wanted ones
pub record Settles (m : QueryMeant) (wanted kinds : List Kind) : Type 0 where
  pub serves : Serves m kinds
  pub settled : kinds ≡ settle_known m.columns wanted
