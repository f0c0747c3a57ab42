use Rattle.std.proofs.Common.{ap, ◌∙◌}
use Rattle.name_seen_parts.specs.FromColumns.{known_names}
use Rattle.name_seen_cores.proofs.Plain.{facts-so, table-source, table-whole}
use Rattle.name_seen_cores.proofs.from.reading.table_plain.Goals as goal

pub returns-in-Some : goal.returns-in-Some
returns-in-Some c = λ sorts.
    facts-so c.external.result _ _
    (table-source c.args.name.now c.args.table.now c.as_slice-in-Some.result.now c.args.kinds.now c.as_slice-in-Some-2.result.now c.in-Some.mark
    (c.as_slice-in-Some.ensures ∙ c.in_ok-names.ensures ∙ ap known_names c.as_slice.ensures) sorts c.in-Some.is c.as_slice-in-Some-2.ensures) c.external.ensures

pub returns-in-None : goal.returns-in-None
returns-in-None c = λ sorts.
    facts-so c.relation.result _ _
    (table-whole c.args.name.now c.args.table.now c.in_ok-names.names c.args.kinds.now (c.in_ok-names.ensures ∙ ap known_names c.as_slice.ensures) sorts c.in-None.is)
    c.relation.ensures
