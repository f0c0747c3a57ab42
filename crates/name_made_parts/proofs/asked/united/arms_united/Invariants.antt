use Rattle.std.proofs.Common.{◌≡◌, map, take}
use Rattle.std.specs.Prelude.{flat_map}
use Rattle.name_meaning.specs.Expressions.{arm_operands}
use Rattle.name_meaning.specs.Operands.{united}
use Rattle.name_meaning.specs.Trees.{arm_of}
use Rattle.name_seen_parts.specs.Standing.{surroundings}
use Rattle.name_made_parts.proofs.asked.united.arms_united.Given as goal

-- the values so far are united
abbrev pub invariant-loop-arm : goal.invariant-loop-arm
invariant-loop-arm l = l.kind ≡ united (flat_map (arm_operands (surroundings l.here)) (map (arm_of l.here.catalog.now) (take l.arm-index l.arms)))
