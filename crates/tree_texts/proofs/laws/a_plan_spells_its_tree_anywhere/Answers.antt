use Rattle.tree_texts.proofs.Standing.{given_spelled}
use Rattle.tree_texts.proofs.laws.a_plan_spells_its_tree_anywhere.Goals as goal

pub returns : goal.returns
returns c = λ rule p places i. given_spelled places p i
