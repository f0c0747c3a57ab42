use Rattle.simpler_laws.specs.Tested.{tested}
use Rattle.simplifier.proofs.raising.above.Goals as goal

pub returns : goal.returns
returns c q h = c.filter_raised.ensures (tested q c.args.tests.now) (c.tested.ensures q h)
