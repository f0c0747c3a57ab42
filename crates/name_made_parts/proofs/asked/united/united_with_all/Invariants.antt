use Rattle.std.proofs.Common.{◌≡◌, map, take}
use Rattle.name_meaning.specs.Meanings.{united_kind}
use Rattle.name_meaning.specs.Operands.{operand, united}
use Rattle.name_meaning.specs.Trees.{part_of}
use Rattle.name_seen_parts.specs.Standing.{surroundings}
use Rattle.name_made_parts.proofs.asked.united.united_with_all.Given as goal

-- the operands so far are united
abbrev pub invariant-loop-tree : goal.invariant-loop-tree
invariant-loop-tree l =
    l.kind ≡ united_kind l.fn.so_far (united (map (operand (surroundings l.here) l.need) (map (part_of l.here.catalog.now) (take l.tree-index l.trees))))
