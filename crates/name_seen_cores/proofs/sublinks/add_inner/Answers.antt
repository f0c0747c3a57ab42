use Rattle.std.specs.Prelude.{List, length, nat_eq}
use Rattle.std.proofs.Common.{ap, ◌∙◌}
use Rattle.name_seen_cores.specs.Inner.{kind_of_first}
use Rattle.name_seen_parts.specs.declared.clauses.column.ShownColumn.{ShownColumn}
use Rattle.name_seen_cores.proofs.Sublinked.{inner-is}
use Rattle.name_seen_cores.proofs.sublinks.add_inner.Goals as goal

pub returns-in-Ok : goal.returns-in-Ok
returns-in-Ok c = λ q whole.
    inner-is q c.args.shown c.args.facts.now _ _ whole
    (c.is_one-one.ensures ∙ ap (λ (columns : List ShownColumn). nat_eq (length columns) 1) c.as_slice.ensures)
    (c.kind_of_first-kind.ensures ∙ ap kind_of_first c.as_slice-2.ensures)
    c.in-Ok.ensures
