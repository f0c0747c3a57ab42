-- How a token is spelled so that it is read again, and where tokens stand that are printed with a space behind each.
use Rattle.std.specs.Prelude.{◌≡◌, ◌<◌, ◌≤◌, ◌^◌, ℕ, ℤ, pos, ◌+◌, List, [], ◌∷◌, ◌++◌, length, Some, slice_range}
use Rattle.std.specs.Fmt.{signed_decimal}
use Rattle.std.specs.List.{flat_map}
use Rattle.std.specs.Str.{byte, str_to_ascii_lowercase}
use Rattle.sql_lexer.specs.declared.token.Token.{Token}
use Rattle.sql_lexer.specs.declared.token.TokenKind.{TokenKind}
use Rattle.sql_lexer.specs.declared.token.TokenKind.TheVariants.{Word, Quoted, Number, Text, Symbol}
use Rattle.sql_lexer.specs.Bytes.{held, in_quotes}
use Rattle.sql_lexer.specs.Lexes.{IsWord, Spells}

-- the bytes of a token: quotes are doubled, a number is in decimal without leading zeros
abbrev pub bytes_of : TokenKind → List ℕ → ℤ → List ℕ
bytes_of Word spelled number = spelled
bytes_of Quoted spelled number = in_quotes (byte "\"") spelled
bytes_of Number spelled number = signed_decimal number
bytes_of Text spelled number = in_quotes (byte "'") spelled
bytes_of Symbol spelled number = spelled

abbrev pub spelling : Token → List ℕ
spelling token = bytes_of token.kind token.spelled token.number

-- what a token may spell, and its number
abbrev pub CanSpell : TokenKind → List ℕ → ℤ → Type 0
CanSpell Word spelled number = IsWord spelled × (spelled ≡ str_to_ascii_lowercase spelled) × (number ≡ pos 0)
CanSpell Quoted spelled number = number ≡ pos 0
CanSpell Number spelled number = (n : ℕ) × (n < 2 ^ 63) × (number ≡ pos n)
CanSpell Text spelled number = number ≡ pos 0
CanSpell Symbol spelled number = (held spelled ≡ Some spelled) × (number ≡ pos 0)

abbrev pub IsSpellable : Token → Type 0
IsSpellable token = CanSpell token.kind token.spelled token.number

-- what a token spells once it is read again: a number loses its leading zeros
abbrev pub plain_spelled : TokenKind → List ℕ → ℤ → List ℕ
plain_spelled Word spelled number = spelled
plain_spelled Quoted spelled number = spelled
plain_spelled Number spelled number = signed_decimal number
plain_spelled Text spelled number = spelled
plain_spelled Symbol spelled number = spelled

-- the token at a place
abbrev pub at_place : ℕ → Token → Token
at_place at token = record {
  kind = token.kind;
  start = at;
  end = at + length (spelling token);
  spelled = plain_spelled token.kind token.spelled token.number;
  number = token.number;
}

-- the tokens with a space behind each
abbrev pub spaced : List Token → List ℕ
spaced tokens = flat_map (λ token. spelling token ++ 32 ∷ []) tokens

abbrev pub placed : ℕ → List Token → List Token
placed at [] = []
placed at (token ∷ tokens) = at_place at token ∷ placed (at + length (spelling token) + 1) tokens

-- a token stands between its places, and its bytes spell it
pub record IsSpanned (bytes : List ℕ) (token : Token) : Type 0 where
  pub some : token.start < token.end
  pub within : token.end ≤ length bytes
  pub spells : Spells token.kind (slice_range bytes token.start token.end) token.spelled token.number

-- each token begins where the one before it ends, or behind that
abbrev pub Rises : ℕ → List Token → Type 0
Rises at [] = Unit {0}
Rises at (token ∷ tokens) = (at ≤ token.start) × Rises token.end tokens
