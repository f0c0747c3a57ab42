use Rattle.tree_texts.proofs.Planned.{text_is_read}
use Rattle.tree_texts.proofs.plans.a_plan_is_read.Goals as goal

pub returns : goal.returns
returns c = λ rule p told utf8. text_is_read p told utf8
