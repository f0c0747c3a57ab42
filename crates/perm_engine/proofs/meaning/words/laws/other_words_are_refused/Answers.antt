use Rattle.perm_engine.proofs.meaning.words.Requested.{no_words, two_scripts, number_and_script}
use Rattle.perm_engine.proofs.meaning.words.laws.other_words_are_refused.Goals as goal

pub returns-clause-none : goal.returns-clause-none
returns-clause-none c = no_words

pub returns-clause-two : goal.returns-clause-two
returns-clause-two c = two_scripts

pub returns-clause-both : goal.returns-clause-both
returns-clause-both c = number_and_script
