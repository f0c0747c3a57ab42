use Rattle.query_facts.specs.reached.reads.Columns.{one_nearer}
use Rattle.query_facts.specs.declared.reached.reads.queries.OuterColumn.{OuterColumn}
use Rattle.query_facts.proofs.Gathered.{SoFar}
use Rattle.query_facts.proofs.reached.reads.queries.with_behind.Given as goal

abbrev pub invariant-loop-column : goal.invariant-loop-column
invariant-loop-column l = SoFar (λ (column : OuterColumn). one_nearer column.level column.place) l.columns l.fn.found l.column-index l.more
