use Rattle.tree_texts.proofs.Levels.{alone, enclosed_alone}
use Rattle.tree_texts.proofs.plans.levels_add_no_node.Goals as goal

pub returns-clause-alone : goal.returns-clause-alone
returns-clause-alone c = alone

pub returns-clause-enclosed : goal.returns-clause-enclosed
returns-clause-enclosed c = enclosed_alone
