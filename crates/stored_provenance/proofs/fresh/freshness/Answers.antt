use Rattle.std.proofs.Common.{◌≡◌, Some, not, sym, ap, ◌∙◌}
use Rattle.std.specs.List.{find}
use Rattle.std.specs.Option.{option_map, option_and_then}
use Rattle.perm_catalog.specs.Stored.{is_unchanged, first_changed}
use Rattle.perm_catalog.specs.declared.entries.SourceVersion.{SourceVersion}
use Rattle.perm_catalog.specs.declared.entries.StoredQuery.{StoredQuery}
use Rattle.perm_catalog.specs.declared.entries.TableEntry.{TableEntry}
use Rattle.stored_provenance.specs.Freshness.{state_of}
use Rattle.stored_provenance.proofs.fresh.freshness.Goals as goal

pub returns : goal.returns
returns c =
    ap Some (c.in_ok-state.ensures ∙ ap state_of (c.first_changed.ensures ∙ ap (find (λ (table : SourceVersion). not (is_unchanged c.args.catalog.now table))) c.as_slice.ensures))
    ∙ ap (option_map (λ (stored : StoredQuery). state_of (first_changed c.args.catalog.now stored)))
    (sym (ap (option_and_then (λ (table : TableEntry). table.stored)) (sym c.in-Some.ensures) ∙ c.in-Some-stored.is))
