use Rattle.statement_steps.proofs.Selected.{answer-turn, answer-run}
use Rattle.statement_steps.proofs.answering.select.Goals as goal

pub returns-clause-text : goal.returns-clause-text
returns-clause-text c =
    answer-turn c.args.catalog.now c.args.at c.args.answer.now c.run-told.result c.run-told.new.runner c.text_of.result
    c.run-told.ensures (rw c.as_slice.ensures at c.text_of.ensures)

pub returns-clause-ran : goal.returns-clause-ran
returns-clause-ran c =
    answer-run c.args.catalog.now c.args.at c.args.answer.now c.run-told.result c.run-told.new.runner c.text_of.result
    c.run-told.ensures (rw c.as_slice.ensures at c.text_of.ensures)
