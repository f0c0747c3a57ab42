use Rattle.bag_algebra.specs.declared.query.Query.TheVariants.{Join}
use Rattle.simplifier.proofs.raising.join_node.Goals as goal

pub returns : goal.returns
returns c q r originals h g k =
    let whole = Join c.args.kind q r c.args.condition.now originals in
    c.forced.ensures whole (c.join_raised.ensures whole (c.join_standing.ensures q r originals h g k))
