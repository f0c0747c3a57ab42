use Rattle.std.proofs.Common.{subst}
use Rattle.sql_printer.specs.explained.Reading.{PlainText}
use Rattle.sql_printer.proofs.explained.ReadBack.{read, ready}
use Rattle.sql_printer.proofs.explained.reading.said_again.Goals as goal

pub said_of-said-requires : goal.said_of-said-requires
said_of-said-requires c =
    ready c.args.catalog.now c.args.text.now c.in-Some.statement (subst (PlainText c.args.text.now) c.in-Some.is c.in_ok-statement.ensures)
    c.in-Ok.resolved c.in-Ok.ensures.resolves c.requires.sound c.a_spelled_script_is_regular.ensures c.whole_statements_are_ready.ensures

pub returns-in-Ok : goal.returns-in-Ok
returns-in-Ok c =
    read c.args.catalog.now c.args.text.now c.in-Some.statement (subst (PlainText c.args.text.now) c.in-Some.is c.in_ok-statement.ensures)
    c.in-Ok.resolved c.in-Ok.ensures.resolves c.requires.tables c.a_text_explains_one_meaning.ensures c.said_of-said.result c.said_of-said.ensures
