use Rattle.std.proofs.Common.{◌≡◌, ◌++◌, take}
use Rattle.refusal_tokens.specs.Hints.{listed}
use Rattle.refusal_tokens.specs.Tables.{texts_of}
use Rattle.refusal_tokens.proofs.listing.add_listed.Given as goal

abbrev pub invariant-loop-text : goal.invariant-loop-text
invariant-loop-text l = l.list ≡ l.initial.list ++ listed (texts_of (take l.text-index l.texts))
