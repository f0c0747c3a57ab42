use Rattle.std.proofs.Common.{◌≡◌, ◌++◌}
use Rattle.query_texts.specs.clauses.Frames.{called_in}
use Rattle.query_texts.specs.clauses.ClauseTexts.{column_items}
use Rattle.query_texts.proofs.clauses.lists.push_column_items.Given as goal

abbrev pub invariant-loop-number : goal.invariant-loop-number
invariant-loop-number l = l.draft ≡ l.fn.draft ++ column_items l.frame.prefix.now (called_in l.frame) l.number
