use Rattle.statement_meaning.proofs.Answered.{good-answer, bad-answer, one_text}
use Rattle.statement_meaning.proofs.laws.answers.laws.a_plain_answer_is_its_rows.Goals as goal

pub returns-clause-good : goal.returns-clause-good
returns-clause-good c = good-answer

pub returns-clause-bad : goal.returns-clause-bad
returns-clause-bad c = bad-answer

pub returns-clause-one_text : goal.returns-clause-one_text
returns-clause-one_text c = one_text
