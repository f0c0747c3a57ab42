use Rattle.perm_engine.proofs.meaning.Sources.{over-provenance, view-keeps, view-read}
use Rattle.perm_engine.proofs.meaning.headline.words.the_word_in_from_asks_for_provenance.Goals as goal

pub returns-clause-subquery : goal.returns-clause-subquery
returns-clause-subquery c = λ contents outer tree at body word without none. over-provenance contents outer tree at body word without none

pub returns-clause-view : goal.returns-clause-view
returns-clause-view c = view-keeps

pub returns-clause-named : goal.returns-clause-named
returns-clause-named c = view-read
