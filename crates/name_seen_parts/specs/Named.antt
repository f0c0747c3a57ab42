-- Words on what a name means in one scope.
use Rattle.std.specs.Prelude.{ℕ, Bool, cond, List, [], ◌∷◌, take, Option, Some, None}
use Rattle.perm_values.specs.declared.kind.Kind.{Kind}
use Rattle.name_meaning.specs.Scopes.{Placed, place_among}
use Rattle.name_meaning.specs.declared.scope.Found.{Found}
use Rattle.name_meaning.specs.declared.scope.Found.TheVariants.{Absent, Ambiguous, Column}
use Rattle.name_meaning.specs.declared.scope.Scope.{Scope}
use Rattle.name_seen_parts.specs.declared.named.Named.{Named}
use Rattle.name_seen_parts.specs.declared.named.Named.TheVariants.{Nowhere, Once, Often}
use Rattle.name_seen_parts.specs.declared.scopes.Scopes.{Scopes}
use Rattle.name_seen_parts.specs.declared.scopes.Scopes.TheVariants.{Outermost, Inner'}

abbrev pub named_of : List Placed → Named
named_of [] = Nowhere
named_of (column ∷ []) = Once column.0 column.1.kind
named_of (column ∷ other ∷ more) = Often

abbrev pub with_column : Named → ℕ → Kind → Named
with_column Nowhere place kind = Once place kind
with_column (Once first kind_of_first) place kind = Often
with_column Often place kind = Often

abbrev pub found_of : ℕ → Scope → Named → Found
found_of level scope Nowhere = Absent
found_of level scope (Once place kind) = Column (record { level = level; place = place_among scope.groups place; kind = kind })
found_of level scope Often = Ambiguous

-- a name alone is looked for further out where no column of this scope has it
abbrev pub found_if_any : ℕ → Scope → Named → Option Found
found_if_any level scope Nowhere = None
found_if_any level scope (Once place kind) = Some (found_of level scope (Once place kind))
found_if_any level scope Often = Some (found_of level scope Often)

-- the scope as it is, or its rows before they are grouped
abbrev pub here_only : Bool → Scope → Scope
here_only bare scope = cond bare (record scope { groups = None }) scope

-- from the inside out, no further than is seen
abbrev pub scopes_of : Scopes → List Scope
scopes_of Outermost = []
scopes_of (Inner' scope bare depth p outer) = take depth (here_only bare scope.now ∷ scopes_of outer)
