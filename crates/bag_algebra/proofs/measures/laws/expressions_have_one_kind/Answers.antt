use Rattle.bag_algebra.proofs.OneKind.{one_kind}
use Rattle.bag_algebra.proofs.measures.laws.expressions_have_one_kind.Goals as goal

pub returns : goal.returns
returns c = one_kind
