use Rattle.perm_values.proofs.Results.{where_made}
use Rattle.row_nodes.specs.Marks.{left_out, wanted, is_over}
use Rattle.row_nodes.proofs.Flags.{over_left, once_left, long}
use Rattle.row_nodes.proofs.set_operation.compared.Goals as goal

pub returns-then-all-clause-rest : goal.returns-then-all-clause-rest
returns-then-all-clause-rest c =
    where_made _ _ c.over.result (λ flags e. over_left c.args.all c.args.common c.args.left.now c.args.right.now flags c.if-all.true e) c.over.ensures

pub returns-then-all-clause-long : goal.returns-then-all-clause-long
returns-then-all-clause-long c = where_made _ _ c.over.result (long (is_over c.args.common c.args.right.now) c.args.left.now) c.over.ensures

pub returns-clause-rest : goal.returns-clause-rest
returns-clause-rest c =
    where_made _ _ c.left_out.result (λ flags e. once_left c.args.all c.args.common c.args.left.now c.args.right.now flags c.if-all.false e)
    (c.left_out.ensures c.args.right.now c.in_ok-held.ensures)

pub returns-clause-long : goal.returns-clause-long
returns-clause-long c =
    where_made _ _ c.left_out.result (long (left_out (wanted c.args.common c.args.right.now)) c.args.left.now) (c.left_out.ensures c.args.right.now c.in_ok-held.ensures)
