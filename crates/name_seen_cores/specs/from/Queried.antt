-- What the code answers of FROM, of a tree of set operations and of a query, or the first break.
use Rattle.std.specs.Prelude.{◌≡◌, ℕ, List, [], ◌++◌, Some, Result}
use Rattle.perm_values.specs.declared.kind.Kind.{Kind}
use Rattle.bag_algebra.specs.Kinds.{kinds_of}
use Rattle.name_meaning.specs.Cores.{settle}
use Rattle.name_meaning.specs.Froms.{FromMeant}
use Rattle.name_meaning.specs.Meanings.{QueryMeant}
use Rattle.name_meaning.specs.Scopes.{ScopeItem, scope_of}
use Rattle.name_meaning.specs.declared.scope.Scope.{Scope}
use Rattle.name_meaning.specs.laws.Facts.{facts_of, both_facts}
use Rattle.name_seen_parts.specs.Columns.{columns_of}
use Rattle.name_seen_parts.specs.Seen.{FirstOr}
use Rattle.name_seen_parts.specs.declared.refusal.Refusal.{Refusal}
use Rattle.name_seen_cores.specs.from.Added.{facts_in}
use Rattle.name_seen_cores.specs.declared.from.facts.Facts.{Facts as Gathered}
use Rattle.name_seen_cores.specs.declared.from.shown.QueryShown.{QueryShown}
use Rattle.name_seen_parts.specs.declared.clauses.column.ShownColumn.{ShownColumn}

-- ---- FROM

-- all items of a `from`, or of all of FROM, behind items of these names; behind the facts so far stand those of the query
pub record FromWhole (m : FromMeant) (earlier : List (List ℕ)) (old new : Gathered) (scope : Scope) : Type 0 where
  pub whole : m.breaks ≡ []
  pub items : List ScopeItem
  pub known : m.items ≡ Some items
  pub scope_is : scope ≡ scope_of items
  pub names : m.names ≡ earlier ++ scope.items
  pub adds : facts_in new ≡ both_facts (facts_in old) (facts_of m.query)

abbrev pub FromSeen : FromMeant → List (List ℕ) → Gathered → Gathered → Result Scope Refusal → Type 0
FromSeen m earlier old new result = FirstOr m.breaks (FromWhole m earlier old new) result

-- ---- a tree of set operations

-- behind the facts so far stand its own, at whatever kinds it is made
pub record ColumnsWhole (m : QueryMeant) (old new : Gathered) (columns : List ShownColumn) : Type 0 where
  pub whole : m.breaks ≡ []
  pub known : m.columns ≡ Some (columns_of columns)
  pub adds : (wanted : List Kind) → facts_in new ≡ both_facts (facts_in old) (facts_of (m.make wanted))

abbrev pub ColumnsSeen : QueryMeant → Gathered → Gathered → Result (List ShownColumn) Refusal → Type 0
ColumnsSeen m old new result = FirstOr m.breaks (ColumnsWhole m old new) result

-- ---- a query

pub record QueryWhole (m : QueryMeant) (query : QueryShown) : Type 0 where
  pub whole : m.breaks ≡ []
  pub known : m.columns ≡ Some (columns_of query.columns)
  pub kinds : (wanted : List Kind) → kinds_of (m.make wanted) ≡ settle (columns_of query.columns) wanted
  pub places : m.places ≡ query.places
  pub facts : (wanted : List Kind) → facts_in query.facts ≡ facts_of (m.make wanted)

abbrev pub QuerySeen : QueryMeant → Result QueryShown Refusal → Type 0
QuerySeen m result = FirstOr m.breaks (QueryWhole m) result
