-- The line that says what could stand where a token can't.
use Rattle.std.specs.Prelude.{◌≤◌, ◌<◌, ◌+◌, ◌^◌, ◌==◌, nat_le, ℕ, cond, List, [], ◌∷◌, ◌++◌, length, take, drop, codes}
use Rattle.std.specs.List.{flat_map}
use Rattle.std.specs.Str.{bytes_eq}
use Rattle.refusal_tokens.specs.Fronts.{HasNoFront, IsFront}
use Rattle.refusal_tokens.specs.Standing.{AreThose, AreWords}
use Rattle.refusal_tokens.specs.Tables.{marks, operators, values}

-- how a text that could stand is told
abbrev pub told : List ℕ → List ℕ
told text =
    cond (bytes_eq text (codes "x")) (codes "a name")
    (cond (bytes_eq text (codes "1")) (codes "a number")
    (cond (bytes_eq text (codes "''")) (codes "a text")
    (cond (bytes_eq text (codes ",")) (codes "a comma")
    (cond (bytes_eq text (codes ".")) (codes "a point")
    (cond (bytes_eq text (codes ";")) (codes "a semicolon") text)))))

-- texts with a comma and a blank in front of each
abbrev pub listed : List (List ℕ) → List ℕ
listed texts = flat_map (λ text. codes ", " ++ told text) texts

-- texts of a kind, of which three at most are examples
abbrev pub kind_of : List ℕ → List (List ℕ) → List ℕ
kind_of kind [] = []
kind_of kind (first ∷ others) = codes ", " ++ kind ++ first ++ flat_map (λ text. codes " or " ++ text) (take 2 others)

-- what is said of all that could stand; their kinds where there are more than eight
abbrev pub standing_list : List (List ℕ) → List (List ℕ) → List (List ℕ) → List (List ℕ) → List ℕ
standing_list found_values found_words found_operators found_marks =
    cond (nat_le (length found_values + length found_words + length found_operators + length found_marks) 8)
    (listed found_values ++ listed found_words ++ listed found_operators ++ listed found_marks)
    (listed found_values ++ kind_of (codes "a word such as ") found_words
    ++ kind_of (codes "an operator such as ") found_operators ++ listed found_marks)

-- a line of a list, where there is something in it
abbrev pub line : List ℕ → List ℕ
line list = cond (length list == 0) [] (codes "hint: here could stand: " ++ drop 2 list ++ codes "\n")

-- as long a front is looked at
abbrev pub limit : ℕ
limit = 2 ^ 14

-- the line at a place: nothing is said where what stands in front of it has no tokens, or its statement's part is too long
pub data IsLine (script : List ℕ) (at : ℕ) : List ℕ → Type 0 where
  said : {front : List ℕ} {found_values found_words found_operators found_marks : List (List ℕ)} → IsFront script at front
      → length front ≤ limit → AreThose front values found_values → AreWords front found_words
      → AreThose front operators found_operators → AreThose front marks found_marks
      → IsLine script at (line (standing_list found_values found_words found_operators found_marks))
  too_long : {front : List ℕ} → IsFront script at front → limit < length front → IsLine script at []
  no_tokens : HasNoFront script at → IsLine script at []
