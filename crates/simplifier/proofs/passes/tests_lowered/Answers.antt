use Rattle.simplifier.proofs.passes.tests_lowered.Goals as goal

pub returns : goal.returns
returns c = c.under.ensures
