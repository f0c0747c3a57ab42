use Rattle.std.proofs.Common.{◌≡◌, [], length}
use Rattle.refusal_hints.specs.Names.{first_wanted, is_wanted, names}
use Rattle.refusal_hints.specs.Words.{pieces}
use Rattle.refusal_hints.proofs.near.first_wanted.Given as goal

-- none of the names so far is wanted
abbrev pub invariant-words : goal.invariant-words
invariant-words l =
    first_wanted (is_wanted l.wanted.item.now l.wanted.column.now l.wanted.found.now l.wanted.more.now) (names [] (pieces l.script))
    ≡ first_wanted (is_wanted l.wanted.item.now l.wanted.column.now l.wanted.found.now l.wanted.more.now) (names l.before (pieces l.rest))

abbrev pub decreases-words : goal.decreases-words
decreases-words l = length l.rest
