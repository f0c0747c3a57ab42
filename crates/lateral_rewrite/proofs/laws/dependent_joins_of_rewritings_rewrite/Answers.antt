use Rattle.lateral_rewrite.proofs.ApplyRows.{rewrite-Apply}
use Rattle.lateral_rewrite.proofs.laws.dependent_joins_of_rewritings_rewrite.Goals as goal

pub returns : goal.returns
returns c = λ kind left left_rewriting right right_rewriting left_given right_given.
    rewrite-Apply kind left left_rewriting right right_rewriting left_given right_given
