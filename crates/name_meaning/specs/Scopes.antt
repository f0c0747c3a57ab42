-- What names name: the columns of the items in scope, looked up from the inside out.
use Rattle.std.specs.Prelude.{ℕ, suc, Bool, ◌&&◌, List, [], ◌∷◌, ◌++◌, map, length, nat_eq, filter, position, Option, Some, None, option_map}
use Rattle.std.specs.Cmp.Lexicographic.{pointwise}
use Rattle.std.specs.List.{enumerate_from}
use Rattle.std.specs.Option.{option_map_or}
use Rattle.perm_values.specs.declared.kind.Kind.{Kind}
use Rattle.sql_tree.specs.declared.name.ColRef.{ColRef}
use Rattle.sql_tree.specs.declared.name.Name.{Name}
use Rattle.name_meaning.specs.declared.scope.Found.{Found}
use Rattle.name_meaning.specs.declared.scope.Found.TheVariants.{Absent as absent, Ambiguous as ambiguous, Column as found}
use Rattle.name_meaning.specs.declared.scope.Scope.{Scope}
use Rattle.name_meaning.specs.declared.scope.ScopeColumn.{ScopeColumn}

pub record KnownColumn : Type 0 where
  pub name : List ℕ
  pub kind : Kind

-- an item of FROM under its name in scope
pub record ScopeItem : Type 0 where
  pub name : List ℕ
  pub columns : List KnownColumn

abbrev pub numbered_columns : ℕ → List KnownColumn → List ScopeColumn
numbered_columns number columns =
    map (λ (column : KnownColumn). record { item = number; name = column.name; kind = column.kind }) columns

-- the columns of all items, the first of which has this number
abbrev pub columns_from : ℕ → List ScopeItem → List ScopeColumn
columns_from number [] = []
columns_from number (item ∷ items) = numbered_columns number item.columns ++ columns_from (suc number) items

-- the scope of these items, whose rows are not grouped
abbrev pub scope_of : List ScopeItem → Scope
scope_of items = record { items = map (λ (item : ScopeItem). item.name) items; columns = columns_from 0 items; groups = None }

-- a column with its place
abbrev pub Placed : Type 0
Placed = ℕ × ScopeColumn

abbrev pub placed : Scope → List Placed
placed scope = enumerate_from 0 scope.columns

abbrev pub is_called : List ℕ → Placed → Bool
is_called name column = pointwise nat_eq name column.1.name

abbrev pub is_of_item : ℕ → Placed → Bool
is_of_item number column = nat_eq number column.1.item

-- the number of the first item of this name
abbrev pub item_number : List ℕ → Scope → Option ℕ
item_number name scope = position (pointwise nat_eq name) scope.items

abbrev pub item_columns : List ℕ → Scope → Option (List Placed)
item_columns name scope = option_map (λ number. filter (is_of_item number) (placed scope)) (item_number name scope)

-- whether the column has this name, and is one of the item if there is one
abbrev pub is_meant : Option ℕ → List ℕ → Placed → Bool
is_meant None name column = is_called name column
is_meant (Some number) name column = is_of_item number column && is_called name column

abbrev pub columns_meant_by : Option ℕ → List ℕ → Scope → List Placed
columns_meant_by item name scope = filter (is_meant item name) (placed scope)

abbrev pub if_some : List Placed → Option (List Placed)
if_some [] = None
if_some (column ∷ columns) = Some (column ∷ columns)

-- the columns that a reference may mean in this scope: `a` is looked for where any item has such a column, `x.a` where
-- there is an item x
abbrev pub meant_by : Option Name → List ℕ → Scope → Option (List Placed)
meant_by None name scope = if_some (columns_meant_by None name scope)
meant_by (Some table) name scope = option_map (λ number. columns_meant_by (Some number) name scope) (item_number table.text scope)

abbrev pub meant_in : ColRef → Scope → Option (List Placed)
meant_in reference scope = meant_by reference.table reference.name.text scope

-- where a column of the core stands in its rows
abbrev pub place_among : Option (List ℕ) → ℕ → Option ℕ
place_among None place = Some place
place_among (Some groups) place = position (nat_eq place) groups

abbrev pub found_among : ℕ → Scope → List Placed → Found
found_among level scope [] = absent
found_among level scope (column ∷ []) =
    found (record { level = level; place = place_among scope.groups column.0; kind = column.1.kind })
found_among level scope (column ∷ other ∷ more) = ambiguous

-- what a reference means, the scopes counted from this level
abbrev pub look_up : ℕ → List Scope → ColRef → Found
look_up level [] reference = absent
look_up level (scope ∷ scopes) reference =
    option_map_or (found_among level scope) (meant_in reference scope) (look_up (suc level) scopes reference)

-- the innermost rows before they are grouped: what an argument of an aggregate sees
abbrev pub ungrouped : List Scope → List Scope
ungrouped [] = []
ungrouped (scope ∷ scopes) = record scope { groups = None } ∷ scopes

-- how many GROUP BY columns stand before the aggregates
abbrev pub group_count : List Scope → ℕ
group_count [] = 0
group_count (scope ∷ scopes) = option_map_or length scope.groups 0
