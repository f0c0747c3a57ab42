-- Columns whose items' numbers ascend.
use Rattle.std.specs.Prelude.{ℕ, ◌≡◌, ◌≤◌, ◌<◌, ⊤, List, [], ◌∷◌}
use Rattle.name_meaning.specs.declared.scope.ScopeColumn.{ScopeColumn}

-- from this number on
abbrev pub Ascends : ℕ → List ScopeColumn → Type 0
Ascends low [] = ⊤
Ascends low (column ∷ columns) = (low ≤ column.item) × Ascends column.item columns

-- the number of the last one's item, or this one
abbrev pub last_item : ℕ → List ScopeColumn → ℕ
last_item number [] = number
last_item number (column ∷ columns) = last_item column.item columns

abbrev pub AscendsTo : ℕ → List ScopeColumn → Type 0
AscendsTo last columns = Ascends 0 columns × (last ≡ last_item 0 columns)

-- each of an item before that of this number
abbrev pub Below : ℕ → List ScopeColumn → Type 0
Below number [] = ⊤
Below number (column ∷ columns) = (column.item < number) × Below number columns

-- each of the item of this number, or of one behind it
abbrev pub From : ℕ → List ScopeColumn → Type 0
From number [] = ⊤
From number (column ∷ columns) = (number ≤ column.item) × From number columns
