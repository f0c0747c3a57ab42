use Rattle.std.proofs.Common.{◌≡◌, ◌++◌}
use Rattle.perm_engine.specs.meaning.generation.Generated.{big_rows}
use Rattle.perm_engine.proofs.meaning.generation.made.Draft.push_big_rows.Given as goal

abbrev pub invariant-loop-place : goal.invariant-loop-place
invariant-loop-place l = l.self ≡ l.fn.self ++ big_rows l.place
