use Rattle.std.proofs.Common.{◌≡◌, ◌+◌, ◌++◌, drop}
use Rattle.query_texts.specs.clauses.Frames.{called_in}
use Rattle.query_texts.specs.clauses.ClauseTexts.{aggregate_items}
use Rattle.query_texts.proofs.clauses.groups.push_aggregate_items.Given as goal

abbrev pub invariant-loop-place : goal.invariant-loop-place
invariant-loop-place l =
    l.fn.draft ++ aggregate_items l.frame.prefix.now (called_in l.frame) l.from l.aggregates
    ≡ l.draft ++ aggregate_items l.frame.prefix.now (called_in l.frame) (l.from + l.place) (drop l.place l.aggregates)
