-- When rows stand for the scopes of names: each column that a name can mean is in the row of its scope, with its kind.
use Rattle.std.specs.Prelude.{◌≡◌, ⊤, ℕ, suc, ◌+◌, List, [], ◌∷◌, slice_get, Some}
use Rattle.perm_values.specs.declared.kind.Kind.{Kind}
use Rattle.bag_algebra.specs.Kinds.{aggregate_kinds}
use Rattle.bag_algebra.specs.declared.query.Aggr.{Aggr}
use Rattle.name_meaning.specs.Scopes.{place_among, group_count}
use Rattle.name_meaning.specs.declared.scope.Scope.{Scope}
use Rattle.name_meaning.specs.declared.scope.ScopeColumn.{ScopeColumn}

-- these kinds stand in the row, the first of them at this place
abbrev pub StandAt : ℕ → List Kind → List Kind → Type 0
StandAt place [] row = ⊤
StandAt place (kind ∷ kinds) row = (slice_get row place ≡ Some kind) × StandAt (suc place) kinds row

-- a row of a core: each column of the scope that stands in the core's rows has its kind there
abbrev pub HoldsScope : Scope → List Kind → Type 0
HoldsScope scope row = (place at : ℕ) (column : ScopeColumn) → slice_get scope.columns place ≡ Some column
    → place_among scope.groups place ≡ Some at → slice_get row at ≡ Some column.kind

-- a row for each scope, from the inside out, and perhaps further rows around them
abbrev pub RowsHold : List Scope → List (List Kind) → Type 0
RowsHold [] rows = ⊤
RowsHold (scope ∷ scopes) [] = ⊥
RowsHold (scope ∷ scopes) (row ∷ rows) = HoldsScope scope row × RowsHold scopes rows

abbrev pub own_row : List (List Kind) → List Kind
own_row [] = []
own_row (row ∷ rows) = row

-- aggregates stand in the core's own row behind its GROUP BY columns, and behind so many aggregates before them
abbrev pub AggregatesStand : List Scope → ℕ → List Aggr → List (List Kind) → Type 0
AggregatesStand scopes before aggregates rows = StandAt (group_count scopes + before) (aggregate_kinds aggregates) (own_row rows)
