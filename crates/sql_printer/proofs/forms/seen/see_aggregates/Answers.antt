use Rattle.sql_printer.specs.rows.Writable.{WritableAggregates}
use Rattle.sql_printer.proofs.forms.OpenedExpressions.{owed-here}
use Rattle.sql_printer.proofs.forms.seen.see_aggregates.Goals as goal

pub loop-aggregate-preserved : goal.loop-aggregate-preserved
loop-aggregate-preserved c = λ rest.
    owed-here WritableAggregates c.args.aggregates.now c.loop-aggregate.aggregate-index c.aggregate-item.result c.loop-aggregate-test.true
    c.aggregate-item.is c.loop-aggregate.invariant (c.see_option.ensures, rest)
