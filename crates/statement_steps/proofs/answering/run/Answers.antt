use Rattle.statement_steps.proofs.Selected.{runs-by}
use Rattle.statement_steps.proofs.answering.run.Goals as goal

pub run-requires : goal.run-requires
run-requires c = c.in_ok-plain.ensures.stands.plain

pub returns : goal.returns
returns c =
    runs-by c.args.catalog.now c.args.answer.now c.in_ok-plain.plain c.requires c.in_ok-plain.ensures.stands c.in_ok-plain.ensures.simple
    c.run.result c.run.new.self (rw (c.as_slice.ensures, c.tables.ensures) at c.run.ensures)
