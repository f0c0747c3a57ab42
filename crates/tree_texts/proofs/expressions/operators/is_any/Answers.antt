use Rattle.tree_texts.proofs.Counted.{any-is}
use Rattle.tree_texts.proofs.expressions.operators.is_any.Goals as goal

pub returns : goal.returns
returns c = any-is c.args.count
