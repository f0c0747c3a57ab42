-- Pieces of a line.
use Rattle.std.proofs.Common.{◌≡◌, ◌∙◌, ℕ, ◌+◌, ◌≤◌, List, [], ◌∷◌, ◌++◌, length, drop, reverse, ap, arith, append-nil}
use Rattle.std.proofs.lemmas.List.{length-take, take_all}
use Rattle.std.proofs.Math.Seq.{drop-length}
use Rattle.refusal_notes.specs.places.Places.{back_to_feed, line_at, up_to_feed}
use Rattle.refusal_notes.specs.Excerpts.{continued}

pub last_line_is : (before : List ℕ) → line_at before (length before) ≡ reverse (back_to_feed before)
last_line_is before =
    ap (λ xs. reverse (back_to_feed xs) ++ up_to_feed (drop (length before) before)) (take_all (length before) before (omega arith))
    ∙ ap (λ xs. reverse (back_to_feed before) ++ up_to_feed xs) (drop-length before)
    ∙ append-nil (reverse (back_to_feed before))

pub continued_within : (bytes : List ℕ) → continued bytes ≤ length bytes
continued_within bytes = omega (arith, length-take {A = ℕ})

pub continued_few : (bytes : List ℕ) → continued bytes ≤ 3
continued_few bytes = omega (arith, length-take {A = ℕ})
