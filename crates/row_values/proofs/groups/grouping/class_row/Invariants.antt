use Rattle.std.proofs.Common.{◌≡◌, ◌++◌, take}
use Rattle.bag_algebra.specs.Outcome.{Good, mapped, each}
use Rattle.row_values.specs.Columns.{class_value}
use Rattle.row_values.proofs.groups.grouping.class_row.Given as goal

abbrev pub invariant-loop-column : goal.invariant-loop-column
invariant-loop-column l = mapped (λ values. l.fn.key ++ values) (each (class_value l.number) (take l.column-index l.columns)) ≡ Good l.row
