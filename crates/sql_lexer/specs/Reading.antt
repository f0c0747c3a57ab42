-- What stands at the front of a text, as a function of the text.
use Rattle.std.specs.Prelude.{◌≡◌, ◌^◌, ◌++◌, ℕ, ℤ, pos, ◌+◌, ◌&&◌, if◌then◌else◌, ◌==◌, nat_lt, List, [], ◌∷◌, take, drop, Option, Some, None, Result, Ok, Err}
use Rattle.std.specs.List.{prefix_len}
use Rattle.std.specs.Str.{byte, str_to_ascii_lowercase}
use Rattle.std.specs.Str.Parse.{digits_value}
use Rattle.sql_lexer.specs.declared.token.Token.{Token}
use Rattle.sql_lexer.specs.declared.token.TokenKind.{TokenKind}
use Rattle.sql_lexer.specs.declared.token.TokenKind.TheVariants.{Word, Quoted, Number, Text, Symbol}
use Rattle.sql_lexer.specs.declared.piece.Piece.{Piece}
use Rattle.sql_lexer.specs.declared.piece.Piece.TheVariants.{Skipped, Found}
use Rattle.sql_lexer.specs.declared.scan.Class.{Class}
use Rattle.sql_lexer.specs.declared.scan.Class.TheVariants.{Blank, Letter, Digit, Quote, Single, Other}
use Rattle.sql_lexer.specs.declared.lex_error.LexError.{LexError}
use Rattle.sql_lexer.specs.declared.lex_error.LexError.TheVariants.{NotUtf8, BadCharacter, Unterminated, NumberRange, NoMemory}
use Rattle.sql_lexer.specs.Bytes.{class_of, is_word, is_digit, is_comment, stands_alone, pair, next_is}

-- nothing is left; or a piece ends at a place and is this token, or none; or the script is refused
pub data Front : Type 0 where
  Nothing : Front
  Ends : ℕ → List Token → Front
  Refused : LexError → Front

abbrev pub token_of : TokenKind → ℕ → ℕ → List ℕ → ℤ → Token
token_of kind at end spelled number = record { kind = kind; start = at; end = end; spelled = spelled; number = number }

-- a token alone at the front
abbrev pub one : TokenKind → ℕ → ℕ → List ℕ → ℤ → Front
one kind at end spelled number = Ends end (token_of kind at end spelled number ∷ [])

unfoldable pub word : ℕ → List ℕ → Front
word at text = let len = prefix_len is_word text in one Word at (at + len) (str_to_ascii_lowercase (take len text)) (pos 0)

unfoldable pub number : ℕ → List ℕ → Front
number at text =
    let len = prefix_len is_digit text in
    let digits = take len text in
    if nat_lt (digits_value 10 digits) (2 ^ 63) then one Number at (at + len) digits (pos (digits_value 10 digits)) else Refused (NumberRange at)

-- what stands between two quotes, and the number of bytes behind the first up to and with the second
pub record Unquoted : Type 0 where
  pub inside : List ℕ
  pub len : ℕ

abbrev pub before : List ℕ → ℕ → Option Unquoted → Option Unquoted
before front len None = None
before front len (Some found) = Some (record { inside = front ++ found.inside; len = len + found.len })

-- a quote that closes at once
abbrev pub closing : Unquoted
closing = record { inside = []; len = 1 }

-- behind an opening quote: what stands before the quote that closes, and the number of bytes up to and with that one
unfoldable pub unquoted : ℕ → List ℕ → Option Unquoted
unquoted quote [] = None
unquoted quote (b ∷ []) = if b == quote then Some closing else None
unquoted quote (b ∷ c ∷ rest) =
    if b == quote then (if c == quote then before (quote ∷ []) 2 (unquoted quote rest) else Some closing) else before (b ∷ []) 1 (unquoted quote (c ∷ rest))

abbrev pub kind_of : ℕ → TokenKind
kind_of quote = if quote == byte "\"" then Quoted else Text

abbrev pub closed : ℕ → ℕ → Option Unquoted → Front
closed at quote None = Refused (Unterminated at)
closed at quote (Some found) = one (kind_of quote) at (at + (1 + found.len)) found.inside (pos 0)

abbrev pub pair_at : ℕ → List ℕ → Option (List ℕ)
pair_at b [] = None
pair_at b (c ∷ rest) = pair b c

abbrev pub single : ℕ → ℕ → Front
single at b = if stands_alone (class_of b) then one Symbol at (at + 1) (b ∷ []) (pos 0) else Refused (BadCharacter at)

abbrev pub symbol : ℕ → ℕ → Option (List ℕ) → Front
symbol at b None = single at b
symbol at b (Some held) = one Symbol at (at + 2) held (pos 0)

-- a comment or a symbol
unfoldable pub comment_or_symbol : ℕ → ℕ → List ℕ → Front
comment_or_symbol at b rest =
    if b == byte "-" && next_is (λ c. c == byte "-") rest then Ends (at + (2 + prefix_len is_comment (drop 1 rest))) []
    else symbol at b (pair_at b rest)

abbrev pub by_class : Class → ℕ → ℕ → List ℕ → Front
by_class Blank at b rest = Ends (at + 1) []
by_class Letter at b rest = word at (b ∷ rest)
by_class Digit at b rest = number at (b ∷ rest)
by_class Quote at b rest = closed at b (unquoted b rest)
by_class Single at b rest = comment_or_symbol at b rest
by_class Other at b rest = comment_or_symbol at b rest

unfoldable pub next : ℕ → List ℕ → Front
next at [] = Nothing
next at (b ∷ rest) = by_class (class_of b) at b rest

-- what a function returned is what stands there; no memory is taken
abbrev pub Reads : Result Piece LexError → Front → Type 0
Reads (Ok (Skipped end)) front = front ≡ Ends end []
Reads (Ok (Found token)) front = front ≡ Ends token.end (token ∷ [])
Reads (Err NoMemory) front = ⊥
Reads (Err (NotUtf8 place)) front = front ≡ Refused (NotUtf8 place)
Reads (Err (BadCharacter place)) front = front ≡ Refused (BadCharacter place)
Reads (Err (Unterminated place)) front = front ≡ Refused (Unterminated place)
Reads (Err (NumberRange place)) front = front ≡ Refused (NumberRange place)
