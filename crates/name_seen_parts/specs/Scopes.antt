-- Items of FROM in scope, side by side.
use Rattle.std.specs.Prelude.{ℕ, ◌+◌, List, [], ◌∷◌, ◌++◌, length, map, None}
use Rattle.perm_catalog.specs.declared.column.Column.{Column}
use Rattle.name_meaning.specs.Froms.{table_columns}
use Rattle.name_meaning.specs.Scopes.{scope_of}
use Rattle.name_meaning.specs.declared.scope.Scope.{Scope}
use Rattle.name_meaning.specs.declared.scope.ScopeColumn.{ScopeColumn}

abbrev pub moved_by : ℕ → ScopeColumn → ScopeColumn
moved_by count column = record column { item = count + column.item }

-- the items of one scope behind those of another, whose rows aren't grouped
abbrev pub scope_beside : Scope → Scope → Scope
scope_beside left right = record {
  items = left.items ++ right.items;
  columns = left.columns ++ map (moved_by (length left.items)) right.columns;
  groups = None;
}

abbrev pub item_scope : List ℕ → List Column → Scope
item_scope name columns = scope_of (record { name = name; columns = table_columns columns } ∷ [])
