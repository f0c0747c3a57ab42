use Rattle.tree_texts.proofs.Planned.{plan_spelled, text_is}
use Rattle.tree_texts.proofs.plans.a_plan_spells_its_tree.Goals as goal

pub returns-clause-spelled : goal.returns-clause-spelled
returns-clause-spelled c = λ rule p at. plan_spelled p at

pub returns-clause-text : goal.returns-clause-text
returns-clause-text c = λ rule p. text_is p
