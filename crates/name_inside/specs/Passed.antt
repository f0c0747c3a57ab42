-- What the first pass says of a query, of a core and of an item of FROM that break nothing.
use Rattle.std.specs.Prelude.{◌≡◌, ℕ, List, [], Option, Some, None}
use Rattle.std.specs.Option.{option_map_or}
use Rattle.sql_tree.specs.declared.name.ColRef.{ColRef}
use Rattle.name_meaning.specs.Cores.{group_scope}
use Rattle.name_meaning.specs.Froms.{FromMeant, ItemMeant, table_columns}
use Rattle.name_meaning.specs.Items.{SelectPart}
use Rattle.name_meaning.specs.Meanings.{Part, QueryMeant}
use Rattle.name_meaning.specs.Queries.{count_columns}
use Rattle.name_meaning.specs.Scopes.{scope_of}
use Rattle.name_meaning.specs.declared.scope.Scope.{Scope}
use Rattle.name_seen_parts.specs.Scopes.{item_scope, scope_beside}
use Rattle.perm_catalog.specs.declared.column.Column.{Column}

-- the number of columns; none where it breaks
abbrev pub HasWidth : QueryMeant → Option ℕ → Type 0
HasWidth m None = m.breaks ≡ [] → ⊥
HasWidth m (Some width) = m.breaks ≡ [] → count_columns m.columns ≡ width

-- the core's scope as its groups see it; none where FROM breaks
abbrev pub HasScope : FromMeant → List ColRef → Option Part → List SelectPart → Option Scope → Type 0
HasScope input groups having items None = input.breaks ≡ [] → ⊥
HasScope input groups having items (Some scope) =
    input.breaks ≡ [] → scope ≡ group_scope (scope_of (option_map_or (λ known. known) input.items [])) groups having items

-- an item under this name with these columns
pub record IsKnownAs (m : ItemMeant) (name : List ℕ) (columns : List Column) : Type 0 where
  pub name_is : m.name ≡ name
  pub known : m.columns ≡ Some (table_columns columns)

-- none where it breaks
abbrev pub IsReadAs : ItemMeant → Option (List ℕ × List Column) → Type 0
IsReadAs m None = m.breaks ≡ [] → ⊥
IsReadAs m (Some read) = m.breaks ≡ [] → IsKnownAs m read.0 read.1

-- the item behind those in scope, if it is known
abbrev pub PutsRead : Option (List ℕ × List Column) → Scope → Scope → Type 0
PutsRead None scope wider = wider ≡ scope
PutsRead (Some read) scope wider = wider ≡ scope_beside scope (item_scope read.0 read.1)
