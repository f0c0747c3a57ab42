use Rattle.name_meaning.proofs.Trees.{part-steady}
use Rattle.name_meaning.proofs.laws.expressions_keep_their_facts.Goals as goal

pub returns : goal.returns
returns c catalog tree here wanted other before earlier = part-steady catalog tree here wanted other before earlier
