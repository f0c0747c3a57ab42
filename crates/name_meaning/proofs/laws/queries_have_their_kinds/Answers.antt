use Rattle.name_meaning.proofs.Trees.{query-known}
use Rattle.name_meaning.proofs.laws.queries_have_their_kinds.Goals as goal

pub returns : goal.returns
returns c catalog tree around sound whole = query-known catalog tree around sound whole
