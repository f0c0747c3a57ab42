use Rattle.std.proofs.Common.{◌≡◌, length}
use Rattle.refusal_hints.specs.Advice.{first_advice}
use Rattle.refusal_hints.specs.Tables.{statement_words}
use Rattle.refusal_hints.specs.Words.{pieces}
use Rattle.refusal_hints.proofs.pieces.first_statement_advice.Given as goal

-- none of the words so far has advice
abbrev pub invariant-words : goal.invariant-words
invariant-words l = first_advice statement_words (pieces l.bytes) ≡ first_advice statement_words (pieces l.rest)

abbrev pub decreases-words : goal.decreases-words
decreases-words l = length l.rest
