use Rattle.bag_algebra.proofs.OneKind.{value-more}
use Rattle.bag_algebra.proofs.measures.laws.more_sublinks_change_nothing.Goals as goal

pub returns : goal.returns
returns c = value-more
