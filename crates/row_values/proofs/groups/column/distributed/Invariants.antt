use Rattle.std.proofs.Common.{take}
use Rattle.bag_algebra.specs.Meaning.{optional_value}
use Rattle.row_values.specs.Columns.{Distributes}
use Rattle.row_values.proofs.groups.column.distributed.Given as goal

abbrev pub invariant-loop-i : goal.invariant-loop-i
invariant-loop-i l = Distributes (optional_value l.argument l.env) (take l.i l.rows) (take l.i l.numbers) l.count l.classes.items
