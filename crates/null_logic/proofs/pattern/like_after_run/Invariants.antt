use Rattle.std.proofs.Common.{◌+◌, ◌*◌, length}
use Rattle.std.specs.Str.{chars}
use denote.Text.{Utf8}
use denote.Shadow.{shadow}
use Rattle.null_logic.proofs.Walk.{Walks}
use Rattle.null_logic.proofs.pattern.like_after_run.Given as goal

abbrev pub invariant-loop-rest : goal.invariant-loop-rest
invariant-loop-rest l =
    shadow (Utf8 l.start) ×
    (shadow (Utf8 l.wanted) × (shadow (Utf8 l.text) × (shadow (Utf8 l.pattern)
    × Walks (chars l.fn.text) (chars l.fn.pattern) (chars l.start) (chars l.wanted) (chars l.text) (chars l.pattern))))

abbrev pub decreases-loop-rest : goal.decreases-loop-rest
decreases-loop-rest l = length (chars l.start) * (length (chars l.fn.pattern) + 1) + length (chars l.pattern)
