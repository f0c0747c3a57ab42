use Rattle.std.proofs.Common.{◌≡◌, ◌++◌}
use Rattle.std.specs.List.{range_with_len}
use Rattle.query_texts.specs.clauses.Keys.{other_keys}
use Rattle.query_texts.proofs.clauses.lists.all_keys.Given as goal

abbrev pub invariant-loop-place : goal.invariant-loop-place
invariant-loop-place l = l.all ≡ l.keys ++ other_keys l.keys (range_with_len 0 l.place)
