use Rattle.perm_catalog.specs.Changes.{nothing_held}
use Rattle.perm_engine.proofs.meaning.Lacking.{there-or-not}
use Rattle.perm_engine.proofs.meaning.headline.words.a_query_has_the_word_or_not.Goals as goal

pub returns : goal.returns
returns c = there-or-not (nothing_held 1)
