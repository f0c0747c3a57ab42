-- What a query keeps, whatever is wanted of its columns.
use Rattle.std.specs.Prelude.{◌≡◌, List, []}
use Rattle.perm_values.specs.declared.kind.Kind.{Kind}
use Rattle.name_meaning.specs.Meanings.{Around, QueryMeant, QueryPart}
use Rattle.name_meaning.specs.laws.Facts.{facts_of}
use Rattle.name_meaning.specs.laws.Known.{HasItsKinds}
use Rattle.name_meaning.proofs.NamedPlaces.{AreNamed}

-- `Sound`: what the names of places rest on
pub record GoodQuery (Sound : Type 0) (m : QueryMeant) : Type 0 where
  pub known : Sound → m.breaks ≡ [] → HasItsKinds m
  pub steady : (w v : List Kind) → facts_of (m.make w) ≡ facts_of (m.make v)
  pub named : Sound → (w : List Kind) → AreNamed (facts_of (m.make w)).places

abbrev pub GoodQueryPart : Type 0 → QueryPart → Type 0
GoodQueryPart Sound query = (around : Around) → GoodQuery Sound (query.means around)
