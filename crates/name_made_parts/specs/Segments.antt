-- Some of the items of a scope, with their columns.
use Rattle.std.specs.Prelude.{ℕ, ◌-◌, cond, List, [], ◌∷◌, ◌++◌, nat_lt, Option, Some, None}
use Rattle.name_meaning.specs.declared.scope.ScopeColumn.{ScopeColumn}

-- a number counted from the first of as many, if it is one of them
abbrev pub back_in : ℕ → ℕ → ℕ → Option ℕ
back_in first count number = cond (nat_lt number first) None (cond (nat_lt (number - first) count) (Some (number - first)) None)

abbrev pub name_in : Option ℕ → List ℕ → List (List ℕ)
name_in None name = []
name_in (Some number) name = name ∷ []

-- the column under another number of its item
abbrev pub column_in : Option ℕ → ScopeColumn → List ScopeColumn
column_in None column = []
column_in (Some number) column = record column { item = number } ∷ []

abbrev pub columns_in : ℕ → ℕ → List ScopeColumn → List ScopeColumn
columns_in first count [] = []
columns_in first count (column ∷ columns) = column_in (back_in first count column.item) column ++ columns_in first count columns
