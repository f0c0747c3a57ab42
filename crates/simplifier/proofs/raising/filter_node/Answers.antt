use Rattle.bag_algebra.specs.declared.query.Query.TheVariants.{Filter}
use Rattle.simplifier.proofs.raising.filter_node.Goals as goal

pub returns : goal.returns
returns c q originals h k = c.filter_raised.ensures (Filter q c.args.condition.now originals) (c.filter_standing.ensures q originals h k)
