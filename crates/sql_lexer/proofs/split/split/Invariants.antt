use Rattle.std.proofs.Common.{◌≤◌, ◌-◌, length, drop}
use Rattle.sql_lexer.specs.Lexes.{LexesTo}
use Rattle.sql_lexer.proofs.split.split.Given as goal

-- what is found is the script up to the place
abbrev pub invariant-loop-at : goal.invariant-loop-at
invariant-loop-at l = (l.at ≤ length l.bytes) × LexesTo 0 l.bytes l.found l.at (drop l.at l.bytes)

abbrev pub decreases-loop-at : goal.decreases-loop-at
decreases-loop-at l = length l.bytes - l.at
