use Rattle.query_laws.proofs.Caused.{value_causes, query_causes}
use Rattle.query_laws.proofs.laws.what_is_bad_meets_a_fault.Goals as goal

pub returns-clause-expressions : goal.returns-clause-expressions
returns-clause-expressions c = value_causes

pub returns-clause-queries : goal.returns-clause-queries
returns-clause-queries c = query_causes
