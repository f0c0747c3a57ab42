use Rattle.std.proofs.Common.{false, []}
use Rattle.perm_values.proofs.Results.{where_made}
use Rattle.row_nodes.specs.Marks.{left_out, wanted}
use Rattle.row_nodes.proofs.Flags.{repeats_left, long}
use Rattle.row_nodes.proofs.set_operation.repeated.Goals as goal

pub returns-clause-once : goal.returns-clause-once
returns-clause-once c = where_made _ _ c.left_out.result (repeats_left c.args.rows.now) (c.left_out.ensures [] c.in_ok-none.ensures)

pub returns-clause-long : goal.returns-clause-long
returns-clause-long c = where_made _ _ c.left_out.result (long (left_out (wanted false [])) c.args.rows.now) (c.left_out.ensures [] c.in_ok-none.ensures)
