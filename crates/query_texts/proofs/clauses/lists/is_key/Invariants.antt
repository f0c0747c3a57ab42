use Rattle.std.proofs.Common.{◌≡◌, drop}
use Rattle.query_texts.specs.clauses.Keys.{is_key}
use Rattle.query_texts.proofs.clauses.lists.is_key.Given as goal

-- the keys that are left decide
abbrev pub invariant-loop-key : goal.invariant-loop-key
invariant-loop-key l = is_key l.keys l.place ≡ is_key (drop l.key-index l.keys) l.place
