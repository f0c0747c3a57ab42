use Rattle.std.proofs.Common.{take}
use Rattle.refusal_tokens.specs.Standing.{AreThose}
use Rattle.refusal_tokens.specs.Tables.{texts_of}
use Rattle.refusal_tokens.proofs.standing.those_of.Given as goal

-- those of the texts so far
abbrev pub invariant-loop-text : goal.invariant-loop-text
invariant-loop-text l = AreThose l.front (texts_of (take l.text-index l.texts)) (texts_of l.those)
