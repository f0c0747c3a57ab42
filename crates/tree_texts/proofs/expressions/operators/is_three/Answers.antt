use Rattle.tree_texts.proofs.Counted.{three-is}
use Rattle.tree_texts.proofs.expressions.operators.is_three.Goals as goal

pub returns : goal.returns
returns c = three-is c.args.count
