use Rattle.std.proofs.Common.{◌≡◌, ◌++◌, codes, flat_map, take}
use Rattle.refusal_tokens.specs.Tables.{texts_of}
use Rattle.refusal_tokens.proofs.listing.add_others.Given as goal

abbrev pub invariant-loop-text : goal.invariant-loop-text
invariant-loop-text l = l.list ≡ l.initial.list ++ flat_map (λ text. codes " or " ++ text) (texts_of (take l.text-index l.few))
