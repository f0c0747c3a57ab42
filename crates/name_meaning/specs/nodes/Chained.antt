-- When the operands of a chain of set operations are made at the kinds of the whole.
use Rattle.std.specs.Prelude.{◌≡◌, List, [], Some}
use Rattle.perm_values.specs.declared.kind.Kind.{Kind}
use Rattle.name_meaning.specs.Cores.{settle_known}
use Rattle.name_meaning.specs.Meanings.{OutColumn, QueryMeant}

-- the whole breaks nothing, its columns are known, and these kinds are their kinds
pub record Serves (m : QueryMeant) (kinds : List Kind) : Type 0 where
  pub whole : m.breaks ≡ []
  pub columns : List OutColumn
  pub known : m.columns ≡ Some columns
  pub serves : settle_known m.columns kinds ≡ kinds
