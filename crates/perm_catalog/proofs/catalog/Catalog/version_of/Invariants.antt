use Rattle.std.proofs.Common.{◌≡◌, ℕ, List, nat_eq}
use Rattle.std.specs.List.{find}
use Rattle.perm_catalog.specs.declared.entries.TableEntry.{TableEntry}
use Rattle.perm_catalog.proofs.catalog.Catalog.version_of.Given as goal

-- what is found in the rest is found in the whole
abbrev pub invariant-loop-entry : goal.invariant-loop-entry
invariant-loop-entry l = find (λ (e : List ℕ × TableEntry). nat_eq e.1.id l.id) l.entry-iterator ≡ find (λ (e : List ℕ × TableEntry). nat_eq e.1.id l.id) l.self.tables
