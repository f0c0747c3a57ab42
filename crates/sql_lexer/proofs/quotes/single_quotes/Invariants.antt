use Rattle.std.proofs.Common.{◌≡◌, ◌++◌, length}
use Rattle.sql_lexer.specs.Undoubled.{undoubled}
use Rattle.sql_lexer.proofs.quotes.single_quotes.Given as goal

abbrev pub invariant-loop-rest : goal.invariant-loop-rest
invariant-loop-rest l = l.inside ++ undoubled l.quote l.rest ≡ undoubled l.quote l.initial.rest

abbrev pub decreases-loop-rest : goal.decreases-loop-rest
decreases-loop-rest l = length l.rest
