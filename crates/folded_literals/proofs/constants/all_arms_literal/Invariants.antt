use Rattle.std.proofs.Common.{◌≡◌, drop}
use Rattle.folded_literals.specs.built.Constants.{all_arms_literal}
use Rattle.folded_literals.proofs.constants.all_arms_literal.Given as goal

abbrev pub invariant-loop-arm : goal.invariant-loop-arm
invariant-loop-arm l = all_arms_literal l.arms ≡ all_arms_literal (drop l.arm-index l.arms)
