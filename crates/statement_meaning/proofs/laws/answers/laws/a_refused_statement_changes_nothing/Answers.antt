use Rattle.statement_meaning.proofs.Kept.{refused-keeps, refusal-keeps, files-keep}
use Rattle.statement_meaning.proofs.laws.answers.laws.a_refused_statement_changes_nothing.Goals as goal

pub returns-clause-refused : goal.returns-clause-refused
returns-clause-refused c = refused-keeps

pub returns-clause-refusal : goal.returns-clause-refusal
returns-clause-refusal c = refusal-keeps

pub returns-clause-over_files : goal.returns-clause-over_files
returns-clause-over_files c = files-keep
