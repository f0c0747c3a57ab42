use Rattle.bag_algebra.specs.declared.query.Query.TheVariants.{Filter}
use Rattle.contribution.specs.Conjunctions.{all_hold}
use Rattle.simplifier.proofs.raising.rows_where.Goals as goal

pub returns : goal.returns
returns c q originals h k = c.filter_raised.ensures (Filter q (all_hold c.args.tests.now) originals) (c.filter_on.ensures q originals h k)
