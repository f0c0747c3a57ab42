-- What contracts see of a token, whose text stands in the script.
use Rattle.std.specs.Prelude.{◌≡◌, ◌<◌, ◌+◌, ◌^◌, ℕ, ℤ, pos, true, if◌then◌else◌, nat_lt, List, length, Option, Some, None}
use Rattle.std.specs.List.{list_all}
use Rattle.std.specs.Str.{IsUtf8, byte, str_to_ascii_lowercase}
use Rattle.std.specs.Str.Parse.{digits_value}
use Rattle.sql_lexer.specs.Bytes.{is_digit}
use Rattle.sql_lexer.specs.declared.token.TokenKind.{TokenKind}
use Rattle.sql_lexer.specs.declared.token.TokenKind.TheVariants.{Word, Quoted, Number, Text, Symbol}
use Rattle.sql_lexer.specs.Undoubled.{undoubled}

-- a token stands from its start up to before its end; it spells a word in lower case, the characters between quotes,
-- the digits of a number, or a symbol; its number is that of its digits, and 0 in other tokens
pub record Spelled : Type 0 where
  pub kind : TokenKind
  pub start : ℕ
  pub end : ℕ
  pub spelled : List ℕ
  pub number : ℤ

-- what a token spells whose text is this
abbrev pub spelled_by : TokenKind → List ℕ → List ℕ
spelled_by Word text = str_to_ascii_lowercase text
spelled_by Quoted text = undoubled (byte "\"") text
spelled_by Number text = text
spelled_by Text text = undoubled (byte "'") text
spelled_by Symbol text = text

-- the number of bytes that a token takes whose text is this: two quotes stand around a text between quotes
abbrev pub width : TokenKind → List ℕ → ℕ
width Word text = length text
width Quoted text = length text + 2
width Number text = length text
width Text text = length text + 2
width Symbol text = length text

-- the number of a token whose text is this
abbrev pub number_by : TokenKind → List ℕ → ℤ
number_by Word text = pos 0
number_by Quoted text = pos 0
number_by Number text = pos (digits_value 10 text)
number_by Text text = pos 0
number_by Symbol text = pos 0

-- the value of digits, if it is below 2^63
abbrev pub value_in_range : List ℕ → Option ℤ
value_in_range digits = if nat_lt (digits_value 10 digits) (2 ^ 63) then Some (pos (digits_value 10 digits)) else None

-- one digit or more
abbrev pub IsDigits : List ℕ → Type 0
IsDigits text = (0 < length text) × (list_all is_digit text ≡ true)

-- a number is below 2^63
abbrev pub IsInRange : TokenKind → List ℕ → Type 0
IsInRange Word text = Unit {0}
IsInRange Quoted text = Unit {0}
IsInRange Number text = IsDigits text × (digits_value 10 text < 2 ^ 63)
IsInRange Text text = Unit {0}
IsInRange Symbol text = Unit {0}

-- what a token holds: its places are numbers of 64 bits
pub record IsHeld (kind : TokenKind) (start : ℕ) (text : List ℕ) : Type 0 where
  pub utf8 : IsUtf8 (spelled_by kind text)
  pub fits : start + width kind text < 2 ^ 64
  pub range : IsInRange kind text
