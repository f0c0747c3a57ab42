use Rattle.std.proofs.Common.{drop}
use Rattle.sql_printer.specs.rows.Writable.{WritableAggregates}
use Rattle.sql_printer.proofs.forms.seen.see_aggregates.Given as goal

-- all can be written where those that are left can
abbrev pub invariant-loop-aggregate : goal.invariant-loop-aggregate
invariant-loop-aggregate l = WritableAggregates (drop l.aggregate-index l.aggregates) → WritableAggregates l.aggregates
