use Rattle.std.proofs.Common.{◌≡◌, ◌++◌, drop}
use Rattle.query_texts.specs.clauses.ClauseTexts.{nevers_text}
use Rattle.query_texts.proofs.clauses.push_nevers.Given as goal

abbrev pub invariant-loop-sub : goal.invariant-loop-sub
invariant-loop-sub l = l.fn.draft ++ nevers_text l.kind l.unused ≡ l.draft ++ nevers_text l.kind (drop l.sub-index l.unused)
