-- The columns for which `*` and `x.*` stand.
use Rattle.std.specs.Prelude.{ℕ, Bool, true, List, filter, Option, Some, None, nat_eq}
use Rattle.name_meaning.specs.Scopes.{Placed, placed, is_of_item}
use Rattle.name_meaning.specs.declared.scope.Scope.{Scope}
use Rattle.name_meaning.specs.declared.scope.ScopeColumn.{ScopeColumn}

-- whether the column is one of the item, if there is one
abbrev pub is_of : Option ℕ → ScopeColumn → Bool
is_of None column = true
is_of (Some number) column = nat_eq number column.item

abbrev pub is_in_item : Option ℕ → Placed → Bool
is_in_item item column = is_of item column.1

abbrev pub columns_of : Option ℕ → Scope → List Placed
columns_of None scope = placed scope
columns_of (Some number) scope = filter (is_of_item number) (placed scope)
