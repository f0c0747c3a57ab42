use Rattle.tree_texts.proofs.Counted.{two-is}
use Rattle.tree_texts.proofs.expressions.operators.is_two.Goals as goal

pub returns : goal.returns
returns c = two-is c.args.count
