use Rattle.std.proofs.Common.{◌≡◌, length}
use Rattle.std.specs.Str.{chars}
use Rattle.null_logic.specs.Like.{like}
use denote.Text.{Utf8}
use denote.Shadow.{shadow}
use Rattle.null_logic.proofs.pattern.like.Given as goal

-- what is left decides
abbrev pub invariant-loop-rest : goal.invariant-loop-rest
invariant-loop-rest l =
    shadow (Utf8 l.text) × shadow (Utf8 l.pattern) × (like (chars l.fn.text) (chars l.fn.pattern) ≡ like (chars l.text) (chars l.pattern))

abbrev pub decreases-loop-rest : goal.decreases-loop-rest
decreases-loop-rest l = length (chars l.pattern)
