use Rattle.name_seen_cores.proofs.Starred.{columns-more}
use Rattle.name_seen_cores.proofs.listing.add_columns.Goals as goal

pub loop-column-preserved : goal.loop-column-preserved
loop-column-preserved c =
    columns-more c.args.item c.args.scope.now.columns c.loop-column.column-index c.column-item.result c.args.columns.now c.loop-column.columns c.add_if.new.columns
    (rw c.as_slice-column-items.ensures at c.loop-column-test.true) (rw c.as_slice-column-items.ensures at c.column-item.is)
    c.loop-column.invariant (c.in_ok-add_if.ensures)
