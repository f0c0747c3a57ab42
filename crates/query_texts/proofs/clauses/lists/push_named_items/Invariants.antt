use Rattle.std.proofs.Common.{◌≡◌, ◌++◌, drop}
use Rattle.query_texts.specs.clauses.Frames.{called_in}
use Rattle.query_texts.specs.clauses.ClauseTexts.{named_items}
use Rattle.query_texts.proofs.clauses.lists.push_named_items.Given as goal

abbrev pub invariant-loop-number : goal.invariant-loop-number
invariant-loop-number l =
    l.fn.draft ++ named_items (called_in l.frame) 0 l.names ≡ l.draft ++ named_items (called_in l.frame) l.number (drop l.number l.names)
