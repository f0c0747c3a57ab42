-- What expressions mean where the code stands.
use Rattle.std.specs.Prelude.{List, map}
use Rattle.sql_tree.specs.declared.expression.ExprTree.{ExprTree}
use Rattle.name_meaning.specs.Meanings.{Meant, means_at}
use Rattle.name_meaning.specs.Operands.{Operand, operand}
use Rattle.name_meaning.specs.Trees.{part_of}
use Rattle.name_meaning.specs.declared.need.Need.{Need}
use Rattle.name_seen_parts.specs.Standing.{surroundings}
use Rattle.name_seen_parts.specs.declared.standing.Here.{Here}

abbrev pub meant_here : Here → ExprTree → Meant
meant_here here tree = means_at (part_of here.catalog.now tree) (surroundings here)

abbrev pub operand_here : Here → Need → ExprTree → Operand
operand_here here need tree = operand (surroundings here) need (part_of here.catalog.now tree)

abbrev pub operands_here : Here → Need → List ExprTree → List Operand
operands_here here need trees = map (operand (surroundings here) need) (map (part_of here.catalog.now) trees)
