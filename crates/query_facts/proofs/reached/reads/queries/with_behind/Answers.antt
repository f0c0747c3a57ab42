use Rattle.std.proofs.Common.{arith}
use Rattle.query_facts.specs.reached.reads.Columns.{one_nearer}
use Rattle.query_facts.specs.declared.reached.reads.queries.OuterColumn.{OuterColumn}
use Rattle.query_facts.proofs.Gathered.{none-yet, all-done}
use Rattle.query_facts.proofs.reached.reads.queries.with_behind.Goals as goal

pub loop-column-init : goal.loop-column-init
loop-column-init c = none-yet (λ (column : OuterColumn). one_nearer column.level column.place) c.args.columns.now c.args.found

pub returns : goal.returns
returns c = all-done (λ (column : OuterColumn). one_nearer column.level column.place) c.args.columns.now c.args.found c.loop-column.column-index c.loop-column.more c.loop-column.invariant (omega arith)
