use Rattle.std.proofs.Common.{take}
use Rattle.std.specs.List.{AllZip}
use Rattle.row_values.specs.Columns.{IsAggregateColumn}
use Rattle.row_values.proofs.groups.column.columns_of.Given as goal

abbrev pub invariant-loop-aggregate : goal.invariant-loop-aggregate
invariant-loop-aggregate l = AllZip (IsAggregateColumn l.env l.rows l.numbers l.count) (take l.aggregate-index l.aggregates) l.columns
