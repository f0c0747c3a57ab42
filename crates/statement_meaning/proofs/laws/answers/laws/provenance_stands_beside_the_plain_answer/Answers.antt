use Rattle.statement_meaning.proofs.Headline.{both-answer}
use Rattle.statement_meaning.proofs.laws.answers.laws.provenance_stands_beside_the_plain_answer.Goals as goal

pub returns : goal.returns
returns c catalog statement plainly answer plain tree at body bag asked_for is word without asked_plainly is_plain good =
    both-answer catalog statement plainly answer plain tree at body asked_for is word without asked_plainly is_plain bag good
