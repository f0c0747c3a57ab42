use Rattle.contribution.proofs.QueryKinds.{value_has-kind}
use Rattle.contribution.proofs.laws.kinds.values_have_their_kinds.Goals as goal

pub returns : goal.returns
returns c = value_has-kind
