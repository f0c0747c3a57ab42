use Rattle.refusal_notes.proofs.places.Columns.{lines-follow, columns-follow}
use Rattle.refusal_notes.proofs.places.laws.characters_have_places_of_their_own.Goals as goal

pub returns-clause-lines : goal.returns-clause-lines
returns-clause-lines c = lines-follow

pub returns-clause-columns : goal.returns-clause-columns
returns-clause-columns c = columns-follow
