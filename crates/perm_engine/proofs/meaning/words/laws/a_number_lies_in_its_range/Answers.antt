use Rattle.perm_engine.proofs.meaning.words.Requested.{number_behind, number_joined, within}
use Rattle.perm_engine.proofs.meaning.words.laws.a_number_lies_in_its_range.Goals as goal

pub returns-clause-within : goal.returns-clause-within
returns-clause-within c = within

pub returns-clause-taken : goal.returns-clause-taken
returns-clause-taken c = number_behind

pub returns-clause-equals : goal.returns-clause-equals
returns-clause-equals c = number_joined
