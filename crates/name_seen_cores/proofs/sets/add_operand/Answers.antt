use Rattle.std.proofs.Common.{subst}
use Rattle.name_seen_cores.specs.from.Queried.{ColumnsSeen}
use Rattle.name_seen_cores.proofs.Queried.{joined-seen, joined-refused}
use Rattle.name_seen_cores.proofs.sets.add_operand.Goals as goal

pub returns-in-Ok : goal.returns-in-Ok
returns-in-Ok c = λ before step operand old middle new is first second.
    joined-seen before step operand c.args.at old middle new c.args.left c.in-Ok.right c.united.result is first
    (subst (λ r. ColumnsSeen operand middle new r) c.in-Ok.is second) c.united.ensures

pub returns-in-Err : goal.returns-in-Err
returns-in-Err c = λ before step operand old middle new is first second.
    joined-refused before step operand old middle new c.args.left c.in-Err.refusal first (subst (λ r. ColumnsSeen operand middle new r) c.in-Err.is second)
