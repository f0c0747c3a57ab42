-- Tokens of a text with blanks behind each, or with none, where two tokens can stand side by side.
use Rattle.std.specs.Prelude.{◌≡◌, ℕ, Bool, true, ◌||◌, ◌==◌, List, [], ◌∷◌, ◌++◌}
use Rattle.std.proofs.Common.{◌⊎◌}
use Rattle.std.specs.List.{list_all, slice_range}
use Rattle.std.specs.Str.{byte}
use Rattle.sql_lexer.specs.Bytes.{is_blank}
use Rattle.sql_lexer.specs.declared.token.Token.{Token}
use Rattle.sql_lexer.specs.declared.token.TokenKind.TheVariants.{Symbol}

-- a symbol that makes no other symbol with what stands at its side
abbrev pub is_free : ℕ → Bool
is_free b = b == byte "(" || b == byte ")" || b == byte "," || b == byte "." || b == byte ";"

-- the token is this symbol
abbrev pub IsSymbol : ℕ → Token → Type 0
IsSymbol b token = (token.kind ≡ Symbol) × (token.spelled ≡ b ∷ [])

abbrev pub IsFree : Token → Type 0
IsFree token = (b : ℕ) × (is_free b ≡ true) × IsSymbol b token

-- behind the last token stands `;`
abbrev pub BeginsFree : List Token → Type 0
BeginsFree [] = Unit {0}
BeginsFree (next ∷ others) = IsFree next

-- a token that these follow may stand at the side of the first of them
abbrev pub MayTouch : Token → List Token → Type 0
MayTouch token others = IsFree token ⊎ BeginsFree others

-- what may stand behind a token that these follow
abbrev pub IsGap : Token → List Token → List ℕ → Type 0
IsGap token others [] = MayTouch token others
IsGap token others (b ∷ gap) = (is_blank b ≡ true) × (list_all is_blank gap ≡ true)

abbrev pub AddsGap : Token → List Token → List ℕ → List ℕ → Type 0
AddsGap token others old new = (gap : List ℕ) × IsGap token others gap × (new ≡ old ++ gap)

-- one blank is added at least
abbrev pub AddsBlanks : List ℕ → List ℕ → Type 0
AddsBlanks old new = (b : ℕ) × (gap : List ℕ) × (is_blank b ≡ true) × (list_all is_blank gap ≡ true) × (new ≡ old ++ b ∷ gap)

-- the bytes of tokens, as they stand in a text, with a gap behind each; behind them these tokens follow
abbrev pub IsWoven : List ℕ → List Token → List Token → List ℕ → Type 0
IsWoven text [] others laid = laid ≡ []
IsWoven text (token ∷ tokens) others laid =
    (gap : List ℕ) × (more : List ℕ) × IsGap token (tokens ++ others) gap
    × (laid ≡ slice_range text token.start token.end ++ (gap ++ more)) × IsWoven text tokens others more
