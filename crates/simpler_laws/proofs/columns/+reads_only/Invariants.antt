use Rattle.std.proofs.Common.{◌≡◌, drop}
use Rattle.simpler_laws.specs.built.Reads.{all_arms_read_only, all_parts_read_only}
use Rattle.simpler_laws.proofs.columns.+reads_only.Given as goal

abbrev pub invariant-parts_read_only-loop-part : goal.invariant-parts_read_only-loop-part
invariant-parts_read_only-loop-part l = all_parts_read_only l.outer l.from l.to l.parts ≡ all_parts_read_only l.outer l.from l.to (drop l.part-index l.parts)

abbrev pub invariant-arms_read_only-loop-arm : goal.invariant-arms_read_only-loop-arm
invariant-arms_read_only-loop-arm l = all_arms_read_only l.outer l.from l.to l.arms ≡ all_arms_read_only l.outer l.from l.to (drop l.arm-index l.arms)
