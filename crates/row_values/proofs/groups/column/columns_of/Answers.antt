use Rattle.std.proofs.Common.{take, refl, sym, subst}
use Rattle.std.specs.List.{AllZip}
use Rattle.perm_values.proofs.Lists.{taken}
use Rattle.row_values.proofs.Outcomes.{handed_on}
use Rattle.row_values.specs.Columns.{IsAggregateColumn}
use Rattle.row_values.proofs.ClassRows.{argument_refuses, zip-more}
use Rattle.row_values.proofs.groups.column.columns_of.Goals as goal

pub returns-in_err-values-clause-err : goal.returns-in_err-values-clause-err
returns-in_err-values-clause-err c =
    handed_on _ _ c.from_residual.result c.from_residual.ensures.1
    (argument_refuses c.args.env.now c.args.aggregates.now c.args.rows.now c.loop-aggregate.aggregate-index c.aggregate-item.result _ c.loop-aggregate-test.true c.aggregate-item.is
    c.in_err-values.ensures.err)

pub loop-aggregate-preserved : goal.loop-aggregate-preserved
loop-aggregate-preserved c =
    let more = taken c.args.aggregates.now c.loop-aggregate.aggregate-index c.aggregate-item.result c.loop-aggregate-test.true c.aggregate-item.is in
    subst (λ l. AllZip (IsAggregateColumn c.args.env.now c.args.rows.now c.args.numbers.now c.args.count) l c.push.new.self) (sym more)
    (rw c.in_ok-push.ensures.ok
    (zip-more (IsAggregateColumn c.args.env.now c.args.rows.now c.args.numbers.now c.args.count) (take c.loop-aggregate.aggregate-index c.args.aggregates.now) c.loop-aggregate.columns _ _
    c.loop-aggregate.invariant (record { function = refl; distributed = c.in_ok-values.ensures.ok })))
