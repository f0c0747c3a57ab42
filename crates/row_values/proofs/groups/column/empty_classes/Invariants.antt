use Rattle.row_values.specs.Columns.{AreEmpty}
use Rattle.row_values.proofs.groups.column.empty_classes.Given as goal

abbrev pub invariant-loop-class : goal.invariant-loop-class
invariant-loop-class l = AreEmpty l._class l.classes.items
