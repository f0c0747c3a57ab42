use Rattle.std.proofs.Common.{◌≡◌, ◌++◌}
use Rattle.query_texts.specs.clauses.ClauseTexts.{grouped_columns}
use Rattle.query_texts.proofs.clauses.groups.push_grouped_columns.Given as goal

abbrev pub invariant-loop-number : goal.invariant-loop-number
invariant-loop-number l = l.draft ≡ l.fn.draft ++ grouped_columns l.prefix l.number
