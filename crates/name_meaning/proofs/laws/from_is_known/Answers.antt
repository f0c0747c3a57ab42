use Rattle.name_meaning.proofs.Trees.{from-known}
use Rattle.name_meaning.proofs.laws.from_is_known.Goals as goal

pub returns : goal.returns
returns c catalog tree outer earlier sound whole = from-known catalog tree outer earlier sound whole
