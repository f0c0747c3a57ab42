use Rattle.std.proofs.Common.{◌≡◌, ◌++◌, drop}
use Rattle.query_texts.specs.clauses.ClauseTexts.{called_items}
use Rattle.query_texts.proofs.clauses.lists.push_called.Given as goal

abbrev pub invariant-loop-number : goal.invariant-loop-number
invariant-loop-number l = l.fn.draft ++ called_items 0 l.names ≡ l.draft ++ called_items l.number (drop l.number l.names)
