use Rattle.statement_meaning.proofs.StoredThen.{fresh-shown, leaves-fresh}
use Rattle.statement_meaning.proofs.laws.a_stored_query_is_fresh.Goals as goal

pub returns-clause-left : goal.returns-clause-left
returns-clause-left c = leaves-fresh c.a_new_stored_query_is_sound.ensures

pub returns-clause-shown : goal.returns-clause-shown
returns-clause-shown c = fresh-shown
