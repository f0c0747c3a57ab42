-- What is made of a clause's expressions, sublinks and aggregates is well formed where it stands.
use Rattle.std.specs.Prelude.{◌≡◌, false, List, [], length, Some, IfSome}
use Rattle.perm_values.specs.Rows.{KeysWithin, PlacesWithin}
use Rattle.perm_values.specs.declared.kind.Kind.{Kind}
use Rattle.bag_algebra.specs.built.Forms.{AllSubsForm, subs_kinds}
use Rattle.bag_algebra.specs.Kinds.{width_of}
use Rattle.bag_algebra.specs.WellFormed.{HasKind, AggregatesForm}
use Rattle.bag_algebra.specs.declared.query.Aggr.{Aggr}
use Rattle.bag_algebra.specs.declared.query.Sublink.{Sublink}
use Rattle.name_meaning.specs.Meanings.{Surroundings, Before, Built, OutColumn, QueryMeant}
use Rattle.name_meaning.specs.Scopes.{ungrouped}
use Rattle.name_meaning.specs.laws.Standing.{StandAt, RowsHold, AggregatesStand}

-- `Holds`: what is well formed, in rows that hold the scopes and in which the aggregates stand, beside sublinks of these kinds;
-- arguments of aggregates see the rows before they are grouped
pub record IsFormed (here : Surroundings) (before : Before) (subs : List Sublink) (aggregates : List Aggr)
    (Holds : List (List Kind) → List Kind → Type 0) : Type 0 where
  pub holds : (rows : List (List Kind)) (kinds : List Kind) → RowsHold here.scopes rows
      → AggregatesStand here.scopes before.aggregates aggregates rows → StandAt before.subs (subs_kinds subs) kinds → Holds rows kinds
  pub subs_formed : (rows : List (List Kind)) → RowsHold here.scopes rows
      → AggregatesStand here.scopes before.aggregates aggregates rows → AllSubsForm rows subs
  pub aggregates_formed : (rows : List (List Kind)) → RowsHold (ungrouped here.scopes) rows → AggregatesForm rows aggregates
  pub without_subs : here.sublinks ≡ false → subs ≡ []
  pub without_aggregates : here.aggregates ≡ false → aggregates ≡ []

-- an expression is well formed and has this kind, its sublinks are well formed, and so are its aggregates
abbrev pub IsFormedExpr : Surroundings → Before → Built → Kind → Type 0
IsFormedExpr here before built kind =
    IsFormed here before built.subs built.aggregates (λ (rows : List (List Kind)) (kinds : List Kind). HasKind rows kinds built.expr kind)

-- a query with a name for each column, keys among the columns, and its provenance columns among them
pub record IsAnswer (m : QueryMeant) : Type 0 where
  pub columns : List OutColumn
  pub known : m.columns ≡ Some columns
  pub named : (wanted : List Kind) → length columns ≡ width_of (m.make wanted)
  pub keys : (wanted : List Kind) → KeysWithin (width_of (m.make wanted)) m.keys
  pub places : IfSome m.places (PlacesWithin (width_of (m.make [])))
