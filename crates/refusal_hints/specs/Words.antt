-- The words of a script in small letters, and what stands at a place of it.
use Rattle.std.specs.Prelude.{ℕ, ◌-◌, ◌==◌, Bool, not, ◌&&◌, ◌||◌, List, [], ◌∷◌, length, take, drop}
use Rattle.std.specs.List.{slice_split, suffix_len, take_while}
use Rattle.std.specs.Char.{is_ascii_alphanumeric}

-- words are made of letters, digits and _
abbrev pub is_other : ℕ → Bool
is_other byte = not (is_ascii_alphanumeric byte) && not (byte == 95)

abbrev pub is_of_word : ℕ → Bool
is_of_word byte = not (is_other byte)

-- what stands between bytes that are of no word: the words, and nothing where two such bytes stand one behind the other
abbrev pub pieces : List ℕ → List (List ℕ)
pieces bytes = slice_split is_other bytes

-- the word that begins at a place
abbrev pub word_at : List ℕ → ℕ → List ℕ
word_at script at = take_while is_of_word (drop at script)

-- the bytes at the end of others that all pass, and what stands in front of these
abbrev pub ending : (ℕ → Bool) → List ℕ → List ℕ
ending passes bytes = drop (length bytes - suffix_len passes bytes) bytes

abbrev pub without_ending : (ℕ → Bool) → List ℕ → List ℕ
without_ending passes bytes = take (length bytes - suffix_len passes bytes) bytes

-- blanks, line ends and opening parentheses
abbrev pub is_between : ℕ → Bool
is_between byte = (byte == 32) || (byte == 9) || (byte == 10) || (byte == 13) || (byte == 40)

-- the word just before a place: blanks and opening parentheses between don't count
abbrev pub word_before : List ℕ → ℕ → List ℕ
word_before script at = ending is_of_word (without_ending is_between (take at script))

abbrev pub is_no_semicolon : ℕ → Bool
is_no_semicolon byte = not (byte == 59)

-- what stands of a place's statement in front of it: from the last semicolon on
abbrev pub statement_before : List ℕ → ℕ → List ℕ
statement_before script at = ending is_no_semicolon (take at script)
