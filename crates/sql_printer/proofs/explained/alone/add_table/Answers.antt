use Rattle.std.proofs.Common.{◌∙◌, None, subst, sym}
use Rattle.perm_catalog.specs.Changes.{with_table}
use Rattle.sql_printer.specs.explained.Alone.{IsAlone}
use Rattle.sql_printer.proofs.explained.OneMoreTable.{more-alone, none-copied}
use Rattle.sql_printer.proofs.explained.alone.add_table.Goals as goal

pub returns-in-Ok : goal.returns-in-Ok
returns-in-Ok c =
    let old = c.args.alone.now in
    let name = c.args.name.now in
    subst (IsAlone c.args.catalog.now)
    (sym (c.in-Ok.ensures.ok ∙ (λ i. with_table old name (c.in_ok-columns.ensures i) (c.new.ensures i) None)))
    (more-alone c.args.catalog.now old name c.in-Some.entry.now c.requires.sound c.requires.alone (sym c.in-Some.ensures)
    (sym c.table.ensures ∙ none-copied c.table.result (sym c.is_some.ensures ∙ c.if-is_some.false)))
