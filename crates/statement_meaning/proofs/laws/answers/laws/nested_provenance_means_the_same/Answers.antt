use Rattle.statement_meaning.proofs.Nested.{nested-good, nested-bad, nested-lists}
use Rattle.statement_meaning.proofs.laws.answers.laws.nested_provenance_means_the_same.Goals as goal

pub returns-clause-good : goal.returns-clause-good
returns-clause-good c = nested-good

pub returns-clause-bad : goal.returns-clause-bad
returns-clause-bad c = nested-bad

pub returns-clause-lists : goal.returns-clause-lists
returns-clause-lists c = nested-lists
