use Rattle.std.proofs.Common.{◌++◌, take, ap, ◌∙◌}
use Rattle.perm_values.proofs.Lists.{taken}
use Rattle.bag_algebra.specs.Outcome.{each, mapped}
use Rattle.row_values.proofs.Outcomes.{passed, mapped_part, each_item}
use Rattle.row_values.specs.Columns.{class_value}
use Rattle.row_values.proofs.ClassRows.{row-more}
use Rattle.row_values.proofs.groups.grouping.class_row.Goals as goal

pub returns-in_err-class_value : goal.returns-in_err-class_value
returns-in_err-class_value c =
    passed _ _ c.from_residual.result c.from_residual.ensures.1
    (mapped_part _ (each (class_value c.args.number) c.args.columns.now) _
    (each_item (class_value c.args.number) c.args.columns.now c.loop-column.column-index c.column-item.result _ c.loop-column-test.true c.column-item.is c.in_err-class_value.ensures))

pub loop-column-preserved : goal.loop-column-preserved
loop-column-preserved c =
    ap (λ l. mapped (λ values. c.args.key ++ values) (each (class_value c.args.number) l))
    (taken c.args.columns.now c.loop-column.column-index c.column-item.result c.loop-column-test.true c.column-item.is)
    ∙ row-more c.args.key (class_value c.args.number) (take c.loop-column.column-index c.args.columns.now) c.column-item.result c.loop-column.row _ _
    c.loop-column.invariant c.in_ok-class_value.ensures c.in_ok-push.ensures.ok
