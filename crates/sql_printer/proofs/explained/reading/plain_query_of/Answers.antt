use Rattle.std.proofs.Common.{◌∙◌, ap, sym}
use Rattle.std.specs.Prelude.{codes}
use Rattle.std.specs.List.{list_all}
use Rattle.statement_meaning.specs.explains.Explains.{is_plain_word}
use Rattle.sql_printer.proofs.explained.ReadBack.{ended-by, plain-text}
use Rattle.sql_printer.proofs.explained.reading.plain_query_of.Goals as goal

pub returns-in-Ok-script : goal.returns-in-Ok-script
returns-in-Ok-script c =
    let ended = ended-by c.args.text.now (codes ";\n") (sym c.if-not-ends_with.false ∙ c.ends_with.ensures.value) in
    plain-text c.args.text.now c.in-Ok.tokens c.in-Ok-script.script c.only_query.result c.in-Ok.ensures.lexes
    (ap (list_all is_plain_word) (sym c.as_slice.ensures) ∙ sym c.are_plain.ensures ∙ c.if-not-are_plain.false) c.in-Ok-script.ensures.1
    ended.0 ended.1 c.only_query.ensures
