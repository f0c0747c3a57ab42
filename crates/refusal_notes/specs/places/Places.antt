-- Where an offset stands in a script, as a person counts: lines and columns from 1, and a column is a character. A line ends with
-- a line feed, as a comment does; a character is told by the byte that begins it (RFC 3629, section 3).
use Rattle.std.specs.Prelude.{ℕ, suc, Bool, cond, not, ◌||◌, ◌==◌, nat_lt, nat_le, List, ◌++◌, take, drop, reverse}
use Rattle.std.specs.List.{count_by, take_while}

abbrev pub is_feed : ℕ → Bool
is_feed byte = byte == 10

-- the other bytes of a character are from 128 to 191
abbrev pub begins_character : ℕ → Bool
begins_character byte = nat_lt byte 128 || nat_le 192 byte

-- of the bytes in front of an offset those of its own line, the last first
abbrev pub back_to_feed : List ℕ → List ℕ
back_to_feed before = take_while (λ byte. not (is_feed byte)) (reverse before)

-- what stands in front of the first line feed
abbrev pub up_to_feed : List ℕ → List ℕ
up_to_feed behind = take_while (λ byte. not (is_feed byte)) behind

abbrev pub line_behind : List ℕ → ℕ
line_behind before = suc (count_by is_feed before)

abbrev pub column_behind : List ℕ → ℕ
column_behind before = suc (count_by begins_character (back_to_feed before))

-- how a byte goes on from a column
abbrev pub column_after : ℕ → ℕ → ℕ
column_after column byte = cond (is_feed byte) 1 (cond (begins_character byte) (suc column) column)

abbrev pub line_of : List ℕ → ℕ → ℕ
line_of script offset = line_behind (take offset script)

abbrev pub column_of : List ℕ → ℕ → ℕ
column_of script offset = column_behind (take offset script)

-- the offset's line, without its line feed
abbrev pub line_at : List ℕ → ℕ → List ℕ
line_at script offset = reverse (back_to_feed (take offset script)) ++ up_to_feed (drop offset script)
