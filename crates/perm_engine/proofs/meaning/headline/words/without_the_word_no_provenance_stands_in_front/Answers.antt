use Rattle.perm_engine.proofs.meaning.Queries.{asked-plainly}
use Rattle.perm_engine.proofs.meaning.headline.words.without_the_word_no_provenance_stands_in_front.Goals as goal

pub returns : goal.returns
returns c = asked-plainly
