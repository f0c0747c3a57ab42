use Rattle.std.proofs.Common.{◌≡◌, ◌++◌, drop}
use Rattle.query_texts.specs.clauses.ClauseTexts.{key_texts}
use Rattle.query_texts.proofs.clauses.lists.push_keys.Given as goal

abbrev pub invariant-loop-number : goal.invariant-loop-number
invariant-loop-number l = l.fn.draft ++ key_texts 0 l.keys ≡ l.draft ++ key_texts l.number (drop l.number l.keys)
