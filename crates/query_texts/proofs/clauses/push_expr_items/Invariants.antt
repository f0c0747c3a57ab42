use Rattle.std.proofs.Common.{◌≡◌, ◌+◌, ◌++◌, drop}
use Rattle.query_texts.specs.clauses.Frames.{called_in}
use Rattle.query_texts.specs.clauses.ClauseTexts.{expr_items}
use Rattle.query_texts.proofs.clauses.push_expr_items.Given as goal

abbrev pub invariant-loop-place : goal.invariant-loop-place
invariant-loop-place l =
    l.fn.draft ++ expr_items l.frame.prefix.now (called_in l.frame) l.subs 1 l.items
    ≡ l.draft ++ expr_items l.frame.prefix.now (called_in l.frame) l.subs (l.place + 1) (drop l.place l.items)
