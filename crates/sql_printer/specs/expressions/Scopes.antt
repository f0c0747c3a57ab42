-- Scopes whose columns have printed names.
use Rattle.std.specs.Prelude.{◌≡◌, ℕ, zero, suc, ◌+◌, ◌<◌, ◌^◌, List, [], ◌∷◌, ◌++◌, length, None}
use Rattle.std.specs.Fmt.{decimal}
use Rattle.perm_values.specs.declared.kind.Kind.{Kind}
use Rattle.name_meaning.specs.declared.scope.Scope.{Scope}
use Rattle.name_meaning.specs.declared.scope.ScopeColumn.{ScopeColumn}

-- so few columns that their numbers are read back
abbrev pub Few : List Kind → Type 0
Few kinds = 1 + length kinds < 2 ^ 64

-- as many characters before a number
abbrev pub marks : ℕ → List ℕ
marks zero = []
marks (suc n) = 99 ∷ marks n

-- their names are numbered from a number on, and these are their kinds
abbrev pub Numbered : ℕ → ℕ → List Kind → List ScopeColumn → Type 0
Numbered depth number [] [] = Unit {0}
Numbered depth number [] (column ∷ columns) = ⊥
Numbered depth number (kind ∷ kinds) [] = ⊥
Numbered depth number (kind ∷ kinds) (column ∷ columns) =
    (column.name ≡ marks depth ++ decimal number) × (column.kind ≡ kind) × Numbered depth (suc number) kinds columns

-- columns that nothing reads
abbrev pub Unread : ℕ → List ScopeColumn → Type 0
Unread depth [] = Unit {0}
Unread depth (column ∷ columns) = (column.name ≡ marks depth ++ decimal 0) × Unread depth columns

-- so many columns that nothing reads, then columns of these kinds, numbered from 1 on, then more that nothing reads
pub record IsPrintedScope (depth front : ℕ) (kinds : List Kind) (scope : Scope) : Type 0 where
  pub unread : List ScopeColumn
  pub own : List ScopeColumn
  pub back : List ScopeColumn
  pub columns : scope.columns ≡ unread ++ (own ++ back)
  pub before : Unread depth unread
  pub count : length unread ≡ front
  pub numbered : Numbered depth 1 kinds own
  pub behind : Unread depth back
  pub ungrouped : scope.groups ≡ None
  pub bound : 1 + length kinds < 2 ^ 64

-- the scopes from the inside out
abbrev pub ScopesAre : ℕ → List (List Kind) → List ℕ → List Scope → Type 0
ScopesAre depth [] unread scopes = Unit {0}
ScopesAre zero (kinds ∷ more) unread scopes = ⊥
ScopesAre (suc depth) (kinds ∷ more) [] scopes = ⊥
ScopesAre (suc depth) (kinds ∷ more) (front ∷ unread) [] = ⊥
ScopesAre (suc depth) (kinds ∷ more) (front ∷ unread) (scope ∷ scopes) = IsPrintedScope (suc depth) front kinds scope × ScopesAre depth more unread scopes
