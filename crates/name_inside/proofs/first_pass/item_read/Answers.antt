use Rattle.std.specs.Prelude.{Err}
use Rattle.std.proofs.Common.{subst}
use Rattle.name_meaning.specs.Froms.{read_of}
use Rattle.name_meaning.specs.Trees.{source_of}
use Rattle.name_seen_cores.specs.from.Readings.{ReadSeen}
use Rattle.name_seen_parts.specs.Standing.{around_of}
use Rattle.name_seen_parts.specs.declared.refusal.Refusal.{Refusal}
use Rattle.name_inside.proofs.ReadItems.{read-broken, read-known}
use Rattle.name_inside.proofs.first_pass.item_read.Goals as goal

pub returns-in_ok-named_columns-in-Ok : goal.returns-in_ok-named_columns-in-Ok
returns-in_ok-named_columns-in-Ok c = λ names.
    let held = c.args.around.now.catalog.now in
    read-known held c.args.item.now (around_of c.args.around.now) names c.in-Ok.reading c.in_ok-named_columns-in-Ok.field-0 c.in-Ok.ensures
    (c.in_ok-named_columns-in-Ok.ensures.name held) c.in_ok-named_columns-in-Ok.ensures.columns

pub returns-in-Err-Break : goal.returns-in-Err-Break
returns-in-Err-Break c = λ names.
    let held = c.args.around.now.catalog.now in
    let place = around_of c.args.around.now in
    read-broken held c.args.item.now place names c.in-Err-Break.field-0-0
    (subst (λ (refusal : Refusal). ReadSeen (read_of held place (source_of held c.args.item.now.source)) (Err refusal)) c.in-Err-Break.field-0-is
    c.in-Err-Break.ensures)
