use Rattle.std.proofs.Common.{◌≡◌, drop}
use Rattle.bag_algebra.specs.built.FaultFree.{all_parts_faultless, all_arms_faultless}
use Rattle.bag_algebra.proofs.measures.faults.+faultless.Given as goal

abbrev pub invariant-parts_faultless-loop-part : goal.invariant-parts_faultless-loop-part
invariant-parts_faultless-loop-part l = all_parts_faultless l.parts ≡ all_parts_faultless (drop l.part-index l.parts)

abbrev pub invariant-arms_faultless-loop-arm : goal.invariant-arms_faultless-loop-arm
invariant-arms_faultless-loop-arm l = all_arms_faultless l.arms ≡ all_arms_faultless (drop l.arm-index l.arms)
