use Rattle.std.proofs.Common.{◌≡◌, drop}
use Rattle.query_texts.specs.clauses.Unused.{items_use}
use Rattle.query_texts.proofs.clauses.items_use.Given as goal

-- the items that are left decide
abbrev pub invariant-loop-item : goal.invariant-loop-item
invariant-loop-item l = items_use l.items l.number ≡ items_use (drop l.item-index l.items) l.number
