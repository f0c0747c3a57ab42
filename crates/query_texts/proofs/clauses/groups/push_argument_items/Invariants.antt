use Rattle.std.proofs.Common.{◌≡◌, ◌+◌, ◌++◌, drop}
use Rattle.query_texts.specs.clauses.ClauseTexts.{argument_items}
use Rattle.query_texts.proofs.clauses.groups.push_argument_items.Given as goal

abbrev pub invariant-loop-place : goal.invariant-loop-place
invariant-loop-place l =
    l.fn.draft ++ argument_items l.prefix l.from l.aggregates ≡ l.draft ++ argument_items l.prefix (l.from + l.place) (drop l.place l.aggregates)
