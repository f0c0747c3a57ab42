use Rattle.statement_steps.proofs.Lost.{lost-runs, lost-text, lost-ran}
use Rattle.statement_steps.proofs.losing.impact.Goals as goal

pub select-told-requires : goal.select-told-requires
select-told-requires c =
    lost-runs c.args.catalog.now c.args.at c.args.name.now c.args.condition.now c.args.answer.now c.in_ok-lost.lost c.requires c.in_ok-lost.ensures

pub returns-clause-text : goal.returns-clause-text
returns-clause-text c =
    lost-text c.args.catalog.now c.args.at c.args.name.now c.args.condition.now c.args.answer.now c.in_ok-lost.lost c.requires c.in_ok-lost.ensures
    c.select-told.result c.select-told.ensures.text

pub returns-clause-ran : goal.returns-clause-ran
returns-clause-ran c =
    lost-ran c.args.catalog.now c.args.at c.args.name.now c.args.condition.now c.args.answer.now c.in_ok-lost.lost c.requires c.in_ok-lost.ensures
    c.select-told.result c.select-told.new.runner c.select-told.ensures.ran
