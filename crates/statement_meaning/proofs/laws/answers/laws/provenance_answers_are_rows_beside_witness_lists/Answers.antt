use Rattle.statement_meaning.proofs.Provenance.{good-provenance, bad-provenance, one_provenance_text}
use Rattle.statement_meaning.proofs.laws.answers.laws.provenance_answers_are_rows_beside_witness_lists.Goals as goal

pub returns-clause-good : goal.returns-clause-good
returns-clause-good c = good-provenance

pub returns-clause-bad : goal.returns-clause-bad
returns-clause-bad c = bad-provenance

pub returns-clause-one_text : goal.returns-clause-one_text
returns-clause-one_text c = one_provenance_text
