use Rattle.bag_algebra.proofs.NeverBad.{good-value}
use Rattle.bag_algebra.proofs.measures.laws.faultless_expressions_meet_no_fault.Goals as goal

pub returns : goal.returns
returns c = λ e u env subs w. good-value e w u env subs
