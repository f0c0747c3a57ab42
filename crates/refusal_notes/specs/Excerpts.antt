-- The piece of a script's line that is shown of it, and the mark under a place.
use Rattle.std.specs.Prelude.{ℕ, ◌+◌, ◌-◌, ◌==◌, nat_lt, nat_le, cond, not, ◌&&◌, ◌||◌, List, [], ◌++◌, length, take, drop, reverse, map, filter, codes}
use Rattle.std.specs.List.{take_while}
use Rattle.refusal_notes.specs.places.Places.{begins_character, back_to_feed, up_to_feed}

-- how many bytes are shown to each side of the place, at about
abbrev pub side : ℕ
side = 80

-- of the offset's line what stands in front of it, and the rest
abbrev pub front_at : List ℕ → ℕ → List ℕ
front_at script at = reverse (back_to_feed (take at script))

abbrev pub behind_at : List ℕ → ℕ → List ℕ
behind_at script at = up_to_feed (drop at script)

-- how many of the first three bytes go on with a character that begins before them
abbrev pub continued : List ℕ → ℕ
continued bytes = length (take_while (λ byte. not (begins_character byte)) (take 3 bytes))

-- the end of what stands in front, from a character on; two dots say that more stands before it
abbrev pub front_piece : List ℕ → List ℕ
front_piece front = cond (nat_le (length front) side) front
    (codes ".." ++ drop (length front - side + continued (drop (length front - side) front)) front)

-- the beginning of the rest, up to the end of a character; two dots say that more stands behind it
abbrev pub behind_piece : List ℕ → List ℕ
behind_piece behind = cond (nat_le (length behind) (side + continued (drop side behind))) behind
    (take (side + continued (drop side behind)) behind ++ codes "..")

-- a byte as it is shown: one that moves the cursor, and is no tab, as a blank
abbrev pub shown : ℕ → ℕ
shown byte = cond ((nat_lt byte 32 && not (byte == 9)) || (byte == 127)) 32 byte

-- what stands under a byte in front of the mark: under a tab a tab, otherwise a blank
abbrev pub blank : ℕ → ℕ
blank byte = cond (byte == 9) 9 32

-- the piece of the line, and the mark: under each character in front of the place a blank
abbrev pub excerpt : List ℕ → ℕ → List ℕ
excerpt script at =
    map shown (front_piece (front_at script at)) ++ map shown (behind_piece (behind_at script at)) ++ codes "\n"
    ++ map blank (filter begins_character (front_piece (front_at script at))) ++ codes "^\n"
