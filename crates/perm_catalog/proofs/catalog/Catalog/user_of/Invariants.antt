use Rattle.std.proofs.Common.{◌≡◌, ℕ, List}
use Rattle.std.specs.List.{find}
use Rattle.perm_catalog.specs.Lookups.{uses_name}
use Rattle.perm_catalog.specs.declared.entries.ViewEntry.{ViewEntry}
use Rattle.perm_catalog.proofs.catalog.Catalog.user_of.Given as goal

-- what is found in the rest is found in the whole
abbrev pub invariant-loop-view : goal.invariant-loop-view
invariant-loop-view l = find (λ (e : List ℕ × ViewEntry). uses_name e.1 l.name) l.view-iterator ≡ find (λ (e : List ℕ × ViewEntry). uses_name e.1 l.name) l.self.views
