-- Places of offsets, worked out: the script has two lines of text, the second with two characters of two bytes, and an empty one.
--     ab
--     éx é      (195 169 120 32 195 169)
use Rattle.std.specs.Prelude.{◌≡◌, ℕ, List, [], ◌∷◌, ◌++◌, refl, codes}
use Rattle.refusal_notes.specs.places.Places.{line_of, column_of, line_at}

abbrev script : List ℕ
script = codes "ab\n" ++ 195 ∷ 169 ∷ codes "x " ++ 195 ∷ 169 ∷ codes "\n"

first-line : line_of script 0 ≡ 1
first-line = refl

first-column : column_of script 0 ≡ 1
first-column = refl

-- a line feed is the last character of its line
feed-line : line_of script 2 ≡ 1
feed-line = refl

feed-column : column_of script 2 ≡ 3
feed-column = refl

second-line : line_of script 3 ≡ 2
second-line = refl

second-column : column_of script 3 ≡ 1
second-column = refl

-- behind a character of two bytes
letter-column : column_of script 5 ≡ 2
letter-column = refl

last-column : column_of script 7 ≡ 4
last-column = refl

-- an offset inside a character is in the column behind it
inside-column : column_of script 8 ≡ 5
inside-column = refl

end-line : line_of script 10 ≡ 3
end-line = refl

end-column : column_of script 10 ≡ 1
end-column = refl

-- an offset behind the end is at the end
further-line : line_of script 99 ≡ 3
further-line = refl

further-column : column_of script 99 ≡ 1
further-column = refl

feed-text : line_at script 2 ≡ codes "ab"
feed-text = refl

second-text : line_at script 7 ≡ 195 ∷ 169 ∷ codes "x " ++ 195 ∷ 169 ∷ []
second-text = refl

end-text : line_at script 10 ≡ []
end-text = refl
