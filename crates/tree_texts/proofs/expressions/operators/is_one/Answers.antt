use Rattle.tree_texts.proofs.Counted.{one-is}
use Rattle.tree_texts.proofs.expressions.operators.is_one.Goals as goal

pub returns : goal.returns
returns c = one-is c.args.count
