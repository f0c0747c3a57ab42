use Rattle.tree_texts.proofs.Counted.{several-is}
use Rattle.tree_texts.proofs.expressions.operators.is_several.Goals as goal

pub returns : goal.returns
returns c = several-is c.args.count
