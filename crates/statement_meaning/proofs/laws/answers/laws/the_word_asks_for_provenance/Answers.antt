use Rattle.statement_meaning.proofs.Words.{without-word, word-proves, word-names}
use Rattle.statement_meaning.proofs.laws.answers.laws.the_word_asks_for_provenance.Goals as goal

pub returns-clause-without : goal.returns-clause-without
returns-clause-without c tree at word = without-word at tree word

pub returns-clause-query : goal.returns-clause-query
returns-clause-query c = word-proves

pub returns-clause-names : goal.returns-clause-names
returns-clause-names c = word-names
