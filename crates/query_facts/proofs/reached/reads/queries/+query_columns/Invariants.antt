use Rattle.query_facts.specs.reached.reads.built.Columns.{sub_columns}
use Rattle.query_facts.proofs.Gathered.{SoFar}
use Rattle.query_facts.proofs.reached.reads.queries.+query_columns.Given as goal

abbrev pub invariant-subs_columns-loop-sub : goal.invariant-subs_columns-loop-sub
invariant-subs_columns-loop-sub l = SoFar sub_columns l.subs l.fn.found l.sub-index l.columns
