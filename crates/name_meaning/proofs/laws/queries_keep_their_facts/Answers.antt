use Rattle.name_meaning.proofs.Trees.{query-steady}
use Rattle.name_meaning.proofs.laws.queries_keep_their_facts.Goals as goal

pub returns : goal.returns
returns c catalog tree around wanted = query-steady catalog tree around wanted
