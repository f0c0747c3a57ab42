use Rattle.std.proofs.Common.{◌≡◌, drop}
use Rattle.folded_literals.specs.built.Constants.{all_steps_literal}
use Rattle.folded_literals.proofs.constants.all_steps_literal.Given as goal

abbrev pub invariant-loop-step : goal.invariant-loop-step
invariant-loop-step l = all_steps_literal l.steps ≡ all_steps_literal (drop l.step-index l.steps)
