-- Which tokens a script is split into, and which script is refused (ISO/IEC 9075-2, 'token and separator').
use Rattle.std.specs.Prelude.{Result, Ok, Err, ◌≡◌, ◌≤◌, ◌<◌, ◌^◌, ℕ, ℤ, pos, ◌+◌, Bool, true, false, ◌||◌, ◌==◌, List, [], ◌∷◌, ◌++◌, length, Some, is_some}
use Rattle.std.specs.List.{list_all}
use Rattle.std.specs.Str.{IsUtf8, IsValidUpTo, byte, str_to_ascii_lowercase}
use Rattle.std.specs.Str.Parse.{digits_value}
use Rattle.sql_lexer.specs.declared.token.Token.{Token}
use Rattle.sql_lexer.specs.declared.token.TokenKind.{TokenKind}
use Rattle.sql_lexer.specs.declared.token.TokenKind.TheVariants.{Word, Quoted, Number, Text, Symbol}
use Rattle.sql_lexer.specs.declared.scan.Class.TheVariants.{Letter, Digit, Quote, Other}
use Rattle.sql_lexer.specs.declared.lex_error.LexError.{LexError}
use Rattle.sql_lexer.specs.declared.lex_error.LexError.TheVariants.{NotUtf8, BadCharacter, Unterminated, NumberRange, NoMemory}
use Rattle.sql_lexer.specs.Bytes.{is_blank, class_of, is_word, is_digit, is_comment, pair, held, are_dashes, next_is, doubled, in_quotes}

-- a letter, then letters and digits; `_` is a letter
abbrev pub IsWord : List ℕ → Type 0
IsWord [] = ⊥
IsWord (first ∷ others) = (class_of first ≡ Letter) × (list_all is_word others ≡ true)

abbrev pub IsNumber : List ℕ → Type 0
IsNumber [] = ⊥
IsNumber (first ∷ others) = (class_of first ≡ Digit) × (list_all is_digit others ≡ true)

-- the bytes are a token of the kind that spells this and has this number
abbrev pub Spells : TokenKind → List ℕ → List ℕ → ℤ → Type 0
Spells Word bytes spelled number = IsWord bytes × (spelled ≡ str_to_ascii_lowercase bytes) × (number ≡ pos 0)
Spells Quoted bytes spelled number = (bytes ≡ in_quotes (byte "\"") spelled) × (number ≡ pos 0)
Spells Number bytes spelled number =
    IsNumber bytes × (spelled ≡ bytes) × (number ≡ pos (digits_value 10 bytes)) × (digits_value 10 bytes < 2 ^ 63)
Spells Text bytes spelled number = (bytes ≡ in_quotes (byte "'") spelled) × (number ≡ pos 0)
Spells Symbol bytes spelled number = (held bytes ≡ Some spelled) × (number ≡ pos 0)

-- whether a byte behind a token's bytes would belong to it: a token ends only where it can't go on. A quote behind
-- a closing quote makes one quote of the two; a dash behind a dash makes a comment of the two
abbrev pub goes_on : TokenKind → List ℕ → ℕ → Bool
goes_on Word bytes b = is_word b
goes_on Quoted bytes b = b == byte "\""
goes_on Number bytes b = is_digit b
goes_on Text bytes b = b == byte "'"
goes_on Symbol bytes b = is_some (held (bytes ++ b ∷ [])) || are_dashes (bytes ++ b ∷ [])

-- a token at a place, whose bytes are these
pub record IsToken (at : ℕ) (bytes : List ℕ) (token : Token) : Type 0 where
  pub start : token.start ≡ at
  pub end : token.end ≡ at + length bytes
  pub spells : Spells token.kind bytes token.spelled token.number

-- a piece of a script at a place: a blank, a comment or a token, which ends before this rest
pub data Piece : ℕ → List ℕ → List ℕ → List Token → Type 0 where
  blank : {at b : ℕ} {rest : List ℕ} → is_blank b ≡ true → Piece at (b ∷ []) rest []
  comment : {at : ℕ} {inside rest : List ℕ} → list_all is_comment inside ≡ true → next_is is_comment rest ≡ false
      → Piece at (byte "-" ∷ byte "-" ∷ inside) rest []
  token : {at : ℕ} {bytes rest : List ℕ} {token : Token} → IsToken at bytes token
      → next_is (goes_on token.kind bytes) rest ≡ false → Piece at bytes rest (token ∷ [])

-- from a place on a text is split into these tokens, up to the place where the rest begins
pub data LexesTo : ℕ → List ℕ → List Token → ℕ → List ℕ → Type 0 where
  nothing : {at : ℕ} {text : List ℕ} → LexesTo at text [] at text
  piece : {at stop : ℕ} {text bytes more rest : List ℕ} {found tokens : List Token} → text ≡ bytes ++ more
      → Piece at bytes more found → LexesTo (at + length bytes) more tokens stop rest → LexesTo at text (found ++ tokens) stop rest

-- the script is text, and all of it is split into these tokens
pub record Lexes (bytes : List ℕ) (tokens : List Token) : Type 0 where
  pub utf8 : IsUtf8 bytes
  pub whole : LexesTo 0 bytes tokens (length bytes) []

-- the first byte is of no class that begins a piece, and begins no symbol of two bytes
abbrev pub BeginsNothing : List ℕ → Type 0
BeginsNothing [] = ⊥
BeginsNothing (b ∷ rest) = (class_of b ≡ Other) × (next_is (λ c. is_some (pair b c)) rest ≡ false)

-- behind the first quote all its quotes come in pairs, up to the end
abbrev pub IsOpen : List ℕ → Type 0
IsOpen [] = ⊥
IsOpen (quote ∷ more) = (class_of quote ≡ Quote) × ((inside : List ℕ) × (more ≡ doubled quote inside))

-- the digits at the front are a number above the limit
abbrev pub IsTooLarge : List ℕ → Type 0
IsTooLarge text = (digits : List ℕ) × (rest : List ℕ) × IsNumber digits × (next_is is_digit rest ≡ false)
    × (text ≡ digits ++ rest) × (2 ^ 63 ≤ digits_value 10 digits)

-- why no piece stands at the front of what is left at a place
abbrev pub IsWrong : ℕ → List ℕ → LexError → Type 0
IsWrong at rest (NotUtf8 place) = ⊥
IsWrong at rest (BadCharacter place) = (place ≡ at) × BeginsNothing rest
IsWrong at rest (Unterminated place) = (place ≡ at) × IsOpen rest
IsWrong at rest (NumberRange place) = (place ≡ at) × IsTooLarge rest
IsWrong at rest NoMemory = ⊥

-- a front of the script is split into tokens, and behind it no piece begins
pub record StopsFor (bytes : List ℕ) (error : LexError) : Type 0 where
  pub utf8 : IsUtf8 bytes
  pub front : List Token
  pub place : ℕ
  pub rest : List ℕ
  pub lexes : LexesTo 0 bytes front place rest
  pub wrong : IsWrong place rest error

-- the refusal of a script; want of memory is none
abbrev pub Refuses : List ℕ → LexError → Type 0
Refuses bytes (NotUtf8 place) = ¬ (IsUtf8 bytes) × IsValidUpTo bytes place
Refuses bytes (BadCharacter place) = StopsFor bytes (BadCharacter place)
Refuses bytes (Unterminated place) = StopsFor bytes (Unterminated place)
Refuses bytes (NumberRange place) = StopsFor bytes (NumberRange place)
Refuses bytes NoMemory = ⊥

-- what `tokens` may answer where it answers no list: the refusal of the script, or that memory ran out
abbrev pub MayRefuse : List ℕ → LexError → Type 0
MayRefuse bytes (NotUtf8 place) = Refuses bytes (NotUtf8 place)
MayRefuse bytes (BadCharacter place) = Refuses bytes (BadCharacter place)
MayRefuse bytes (Unterminated place) = Refuses bytes (Unterminated place)
MayRefuse bytes (NumberRange place) = Refuses bytes (NumberRange place)
MayRefuse bytes NoMemory = Unit {0}

-- the script is text, and a front of it is split into tokens, of which there is one at least
pub record BeginsWithTokens (bytes : List ℕ) : Type 0 where
  pub utf8 : IsUtf8 bytes
  pub front : List Token
  pub place : ℕ
  pub rest : List ℕ
  pub lexes : LexesTo 0 bytes front place rest
  pub some : 0 < length front

-- the answer is this list, unless memory ran out
abbrev pub GivesList : Result (List Token) LexError → List Token → Type 0
GivesList (Ok tokens) list = tokens ≡ list
GivesList (Err error) list = error ≡ NoMemory

-- the answer is this refusal, unless memory ran out
abbrev pub GivesRefusal : Result (List Token) LexError → LexError → Type 0
GivesRefusal (Ok tokens) refusal = ⊥
GivesRefusal (Err NoMemory) refusal = Unit {0}
GivesRefusal (Err (NotUtf8 place)) refusal = NotUtf8 place ≡ refusal
GivesRefusal (Err (BadCharacter place)) refusal = BadCharacter place ≡ refusal
GivesRefusal (Err (Unterminated place)) refusal = Unterminated place ≡ refusal
GivesRefusal (Err (NumberRange place)) refusal = NumberRange place ≡ refusal
