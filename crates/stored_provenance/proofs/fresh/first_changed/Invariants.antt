use Rattle.std.proofs.Common.{◌≡◌, not, drop}
use Rattle.std.specs.List.{find}
use Rattle.perm_catalog.specs.Stored.{is_unchanged}
use Rattle.perm_catalog.specs.declared.entries.SourceVersion.{SourceVersion}
use Rattle.stored_provenance.proofs.fresh.first_changed.Given as goal

-- what is found in the rest is found in the whole
abbrev pub invariant-loop-table : goal.invariant-loop-table
invariant-loop-table l =
    find (λ (table : SourceVersion). not (is_unchanged l.catalog table)) (drop l.table-index l.kept) ≡ find (λ (table : SourceVersion). not (is_unchanged l.catalog table)) l.kept
