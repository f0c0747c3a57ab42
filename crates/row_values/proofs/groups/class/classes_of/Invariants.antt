use Rattle.std.proofs.Common.{take}
use Rattle.row_values.specs.Groups.{IsClassed}
use Rattle.row_values.proofs.groups.class.classes_of.Given as goal

abbrev pub invariant-loop-row : goal.invariant-loop-row
invariant-loop-row l = IsClassed l.groups (take l.row-index l.rows) l.keys.keys l.numbers
