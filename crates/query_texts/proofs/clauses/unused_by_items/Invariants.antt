use Rattle.std.proofs.Common.{◌≡◌, ◌++◌, drop}
use Rattle.query_texts.specs.clauses.Unused.{items_use, spare}
use Rattle.query_texts.proofs.clauses.unused_by_items.Given as goal

abbrev pub invariant-loop-number : goal.invariant-loop-number
invariant-loop-number l = spare (items_use l.items) 0 l.subs ≡ l.unused ++ spare (items_use l.items) l.number (drop l.number l.subs)
