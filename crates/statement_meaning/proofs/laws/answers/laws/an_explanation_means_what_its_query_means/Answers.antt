use Rattle.statement_meaning.proofs.Explained.{explains, unexplained}
use Rattle.statement_meaning.proofs.laws.answers.laws.an_explanation_means_what_its_query_means.Goals as goal

pub returns-clause-text : goal.returns-clause-text
returns-clause-text c = explains

pub returns-clause-refused : goal.returns-clause-refused
returns-clause-refused c = unexplained
