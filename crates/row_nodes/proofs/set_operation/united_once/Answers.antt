use Rattle.row_nodes.proofs.Flags.{united_is}
use Rattle.row_nodes.proofs.set_operation.united_once.Goals as goal

pub returns : goal.returns
returns c =
    rw (c.in_ok-append.ensures.ok, c.in_ok-rows.ensures)
    (united_is c.args.left c.args.right c.as_slice-2.result.now c.as_slice.result.now _ c.in_ok-more.more c.as_slice-3.result.now
    c.as_slice-2.ensures c.as_slice.ensures c.as_slice-3.ensures c.in_ok-more.ensures.rest c.in_ok-without.ensures)
