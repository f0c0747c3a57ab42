use Rattle.statement_meaning.proofs.Sounder.{keeps-sound}
use Rattle.statement_meaning.proofs.laws.statements_keep_catalogs_sound.Goals as goal

pub returns : goal.returns
returns c = keeps-sound c.a_new_stored_query_is_sound.ensures
