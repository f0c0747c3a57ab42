use Rattle.std.proofs.Common.{[]}
use Rattle.bag_algebra.specs.declared.query.JoinKind.TheVariants.{Inner}
use Rattle.bag_algebra.specs.declared.query.Query.TheVariants.{Join}
use Rattle.contribution.specs.Conjunctions.{all_hold}
use Rattle.simplifier.proofs.raising.pairs_where.Goals as goal

pub returns : goal.returns
returns c q r h k = c.join_raised.ensures (Join Inner q r (all_hold c.args.tests.now) []) (c.inner_pairs.ensures q r h k)
