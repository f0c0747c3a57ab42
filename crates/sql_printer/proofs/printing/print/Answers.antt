use Rattle.std.proofs.Common.{ap, sym, subst, ◌∙◌}
use Rattle.std.proofs.lemmas.Result.{IfOk-weaker}
use Rattle.std.specs.List.{AllByRecursion}
use Rattle.std.specs.Str.{IsUtf8}
use Rattle.bag_algebra.specs.TablesRead.{EachTable}
use Rattle.query_texts.specs.QueryTexts.{answer_bytes}
use Rattle.sql_printer.specs.forms.Printable.{AreCharacters}
use Rattle.sql_printer.specs.answers.ReadAs.{IsNamed}
use Rattle.sql_printer.proofs.NamedTables.{tables-named}
use Rattle.sql_printer.proofs.PrintedAnswers.{printed}
use Rattle.sql_printer.proofs.printing.print.Goals as goal

pub returns : goal.returns
returns c =
    let catalog = c.args.catalog.now in
    let answer = c.args.answer.now in
    let written = c.as_slice-4.ensures ∙ c.in_ok-text.ensures ∙ ap (λ tables. answer_bytes tables answer.query answer.names answer.keys) c.as_slice-3.ensures in
    IfOk-weaker c.in_lines.result _ _
    (λ text laid.
    printed c.a_printed_answer_is_read_back.ensures c.a_printed_answer_means_the_answer.ensures catalog c.in_ok-tables.tables answer c.requires.formed
    c.requires.plain
    (subst (λ tables. EachTable (IsNamed catalog tables) answer.query) (sym c.in_ok-tables.ensures)
    (tables-named catalog c.requires.sound answer.query c.requires.held))
    c.in_ok-printable.ensures (subst (AllByRecursion AreCharacters) c.as_slice.ensures c.see_tables.ensures)
    (subst (AllByRecursion IsUtf8) c.as_slice-2.ensures c.see_names.ensures) text (λ tokens all is. laid tokens all (written ∙ is)))
    c.in_lines.ensures
