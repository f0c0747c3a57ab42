-- What is known of a part that breaks nothing.
use Rattle.std.specs.Prelude.{◌≡◌, List, [], ◌∷◌, ◌++◌, map, Some}
use Rattle.perm_values.specs.declared.kind.Kind.{Kind}
use Rattle.bag_algebra.specs.Kinds.{kinds_of}
use Rattle.name_meaning.specs.Cores.{settle}
use Rattle.name_meaning.specs.Froms.{Read, ItemMeant, FromMeant}
use Rattle.name_meaning.specs.Meanings.{OutColumn, QueryMeant}
use Rattle.name_meaning.specs.Scopes.{KnownColumn, ScopeItem}

-- its columns are known, and the query that it is made to has their kinds, those of kind Any the wanted ones
pub record HasItsKinds (m : QueryMeant) : Type 0 where
  pub columns : List OutColumn
  pub known : m.columns ≡ Some columns
  pub kinds : (wanted : List Kind) → kinds_of (m.make wanted) ≡ settle columns wanted

abbrev pub column_kinds_of : List KnownColumn → List Kind
column_kinds_of columns = map (λ (column : KnownColumn). column.kind) columns

-- the kinds of the columns of all items
abbrev pub items_kinds : List ScopeItem → List Kind
items_kinds [] = []
items_kinds (item ∷ items) = column_kinds_of item.columns ++ items_kinds items

-- what an item reads is known, with and without the mark of provenance that it has of itself
pub record ReadIsKnown (r : Read) : Type 0 where
  pub columns : List KnownColumn
  pub known : r.columns ≡ Some columns
  pub kinds : kinds_of r.query ≡ column_kinds_of columns
  pub plain : kinds_of r.plain ≡ column_kinds_of columns

-- an item is known
pub record ItemIsKnown (m : ItemMeant) : Type 0 where
  pub columns : List KnownColumn
  pub known : m.columns ≡ Some columns
  pub kinds : kinds_of m.query ≡ column_kinds_of columns

-- FROM is known: its items, and its rows have their columns side by side
pub record FromIsKnown (m : FromMeant) : Type 0 where
  pub items : List ScopeItem
  pub known : m.items ≡ Some items
  pub kinds : kinds_of m.query ≡ items_kinds items
