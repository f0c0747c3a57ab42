use Rattle.contribution.proofs.Growth.{value-same, denote-same}
use Rattle.contribution.proofs.laws.growth.meaning_rests_on_named_columns.Goals as goal

pub returns-clause-expressions : goal.returns-clause-expressions
returns-clause-expressions c scopes subs e kind u v env other answers f s = value-same scopes subs u v env other s answers e kind f

pub returns-clause-queries : goal.returns-clause-queries
returns-clause-queries c outer q db env other f s = denote-same q outer db env other f s
