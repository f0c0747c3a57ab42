use Rattle.std.proofs.Common.{◌≡◌, drop}
use Rattle.folded_literals.specs.built.Constants.{all_literal}
use Rattle.folded_literals.proofs.constants.all_literal.Given as goal

abbrev pub invariant-loop-part : goal.invariant-loop-part
invariant-loop-part l = all_literal l.parts ≡ all_literal (drop l.part-index l.parts)
