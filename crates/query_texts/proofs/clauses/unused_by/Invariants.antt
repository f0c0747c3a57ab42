use Rattle.std.proofs.Common.{◌≡◌, ◌++◌, drop}
use Rattle.query_texts.specs.clauses.Unused.{spare, used_in}
use Rattle.query_texts.proofs.clauses.unused_by.Given as goal

abbrev pub invariant-loop-number : goal.invariant-loop-number
invariant-loop-number l = spare (used_in l.condition) 0 l.subs ≡ l.unused ++ spare (used_in l.condition) l.number (drop l.number l.subs)
