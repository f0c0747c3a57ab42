use Rattle.statement_meaning.proofs.Impacts.{good-impact, bad-impact, before-meets, one_lost_text}
use Rattle.statement_meaning.proofs.laws.answers.laws.an_impact_answers_the_rows_that_vanish.Goals as goal

pub returns-clause-good : goal.returns-clause-good
returns-clause-good c = good-impact

pub returns-clause-bad : goal.returns-clause-bad
returns-clause-bad c = bad-impact

pub returns-clause-met : goal.returns-clause-met
returns-clause-met c query id condition db fault = before-meets query id condition db fault

pub returns-clause-one_text : goal.returns-clause-one_text
returns-clause-one_text c = one_lost_text
