-- The bytes of which tokens are made (ISO/IEC 9075-2, 'SQL terminal character').
use Rattle.std.specs.Prelude.{ℕ, Bool, true, false, not, ◌||◌, ◌&&◌, ◌++◌, if◌then◌else◌, ◌==◌, List, [], ◌∷◌, Option, Some, None, codes}
use Rattle.std.specs.Char.{is_ascii_alphabetic, is_ascii_digit}
use Rattle.std.specs.List.{flat_map, list_any}
use Rattle.std.specs.Str.{byte}
use Rattle.sql_lexer.specs.declared.scan.Class.{Class}
use Rattle.sql_lexer.specs.declared.scan.Class.TheVariants.{Blank, Letter, Digit, Quote, Single, Other}

-- a blank is a space, a tab, a line feed or a carriage return
abbrev pub is_blank : ℕ → Bool
is_blank b = b == 32 || b == 9 || b == 10 || b == 13

-- a byte that is a symbol by itself
abbrev pub is_single : ℕ → Bool
is_single b = list_any (λ symbol. b == symbol) (codes "(),;.*+-/%=<>")

-- each byte is of one class; those above 127 are of none that begins a token
unfoldable pub class_of : ℕ → Class
class_of b =
    if is_blank b then Blank
    else (if is_ascii_alphabetic b || b == byte "_" then Letter
    else (if is_ascii_digit b then Digit
    else (if b == byte "\"" || b == byte "'" then Quote
    else (if is_single b then Single else Other))))

-- what a word goes on with
abbrev pub joins_word : Class → Bool
joins_word Letter = true
joins_word Digit = true
joins_word Blank = false
joins_word Quote = false
joins_word Single = false
joins_word Other = false

-- what a number goes on with
abbrev pub joins_number : Class → Bool
joins_number Digit = true
joins_number Letter = false
joins_number Blank = false
joins_number Quote = false
joins_number Single = false
joins_number Other = false

-- what is a symbol by itself
abbrev pub stands_alone : Class → Bool
stands_alone Single = true
stands_alone Letter = false
stands_alone Digit = false
stands_alone Blank = false
stands_alone Quote = false
stands_alone Other = false

abbrev pub is_word : ℕ → Bool
is_word b = joins_word (class_of b)

abbrev pub is_digit : ℕ → Bool
is_digit b = joins_number (class_of b)

-- a comment goes on up to a line feed
abbrev pub is_comment : ℕ → Bool
is_comment b = not (b == 10)

-- the symbols of two bytes, as they are held: `!=` is held as `<>`
abbrev pub pair : ℕ → ℕ → Option (List ℕ)
pair b c =
    if b == byte "<" && c == byte ">" then Some (codes "<>")
    else (if b == byte "!" && c == byte "=" then Some (codes "<>")
    else (if b == byte "<" && c == byte "=" then Some (codes "<=")
    else (if b == byte ">" && c == byte "=" then Some (codes ">=") else None)))

-- a symbol's bytes, as they are held
abbrev pub held : List ℕ → Option (List ℕ)
held [] = None
held (b ∷ []) = if is_single b then Some (b ∷ []) else None
held (b ∷ c ∷ []) = pair b c
held (b ∷ c ∷ d ∷ more) = None

-- two dashes, which begin a comment
abbrev pub are_dashes : List ℕ → Bool
are_dashes [] = false
are_dashes (b ∷ []) = false
are_dashes (b ∷ c ∷ []) = b == byte "-" && c == byte "-"
are_dashes (b ∷ c ∷ d ∷ more) = false

-- whether a text begins with a byte that passes
abbrev pub next_is : (ℕ → Bool) → List ℕ → Bool
next_is test [] = false
next_is test (b ∷ rest) = test b

-- the characters between quotes, with each quote among them written twice
abbrev pub doubled : ℕ → List ℕ → List ℕ
doubled quote inside = flat_map (λ b. if b == quote then quote ∷ quote ∷ [] else b ∷ []) inside

abbrev pub in_quotes : ℕ → List ℕ → List ℕ
in_quotes quote inside = quote ∷ (doubled quote inside ++ quote ∷ [])
