use Rattle.perm_engine.proofs.meaning.Twins.{twin}
use Rattle.perm_engine.proofs.meaning.headline.words.without_the_word_a_query_breaks_no_more.Goals as goal

pub returns : goal.returns
returns c = twin
