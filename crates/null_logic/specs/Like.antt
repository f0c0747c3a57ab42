-- LIKE on lists of characters (ISO/IEC 9075-2, 'like predicate', without ESCAPE).
use Rattle.std.specs.Prelude.{◌≢◌, ℕ, Bool, true, false, cond, ◌&&◌, ◌||◌, ◌==◌, List, [], ◌∷◌}
use Rattle.std.specs.Str.{byte}

-- `%`
abbrev pub any_run : ℕ
any_run = byte "%"

-- `_`
abbrev pub any_one : ℕ
any_one = byte "_"

abbrev pub is_empty : List ℕ → Bool
is_empty [] = true
is_empty (c ∷ cs) = false

-- some suffix of the text passes, the whole and the empty one among them
abbrev pub some_suffix : (List ℕ → Bool) → List ℕ → Bool
some_suffix passes [] = passes []
some_suffix passes (c ∷ cs) = passes (c ∷ cs) || some_suffix passes cs

-- the first character passes, and what follows it does
abbrev pub first_then : (ℕ → Bool) → (List ℕ → Bool) → List ℕ → Bool
first_then one rest [] = false
first_then one rest (c ∷ cs) = one c && rest cs

-- whether a character of the pattern, other than `%`, takes this one
abbrev pub takes : ℕ → ℕ → Bool
takes p c = p == any_one || p == c

-- whether the text matches the pattern
abbrev pub like : List ℕ → List ℕ → Bool
like text [] = is_empty text
like text (p ∷ pattern) = cond (p == any_run)
    (some_suffix (λ rest. like rest pattern) text)
    (first_then (takes p) (λ rest. like rest pattern) text)

-- a character that stands for itself
abbrev pub IsLiteral : ℕ → Type 0
IsLiteral p = (p ≢ any_run) × (p ≢ any_one)
