-- The numbers of the tokens of some bytes have 63 bits.
use Rattle.std.proofs.Common.{◌≡◌, ℕ, ◌<◌, ◌^◌, ℤ, pos, List, [], sym, subst}
use native.Mathlib.Omega.{arith}
use Rattle.sql_lexer.specs.declared.token.Token.{Token}
use Rattle.sql_lexer.specs.declared.token.TokenKind.{TokenKind}
use Rattle.sql_lexer.specs.declared.token.TokenKind.TheVariants.{Word, Quoted, Number, Text, Symbol}
use Rattle.sql_lexer.specs.Lexes.{Spells, Piece, blank, comment, token, LexesTo, nothing, piece}
use Rattle.sql_tree.specs.Regular.{Each, IsTokenNumber}
use Rattle.sql_tree.proofs.Holding.{none-each, cons-each, append-each}

-- the token's number has 63 bits
abbrev pub HasNumber : Token → Type 0
HasNumber t = IsTokenNumber t.number

of_natural : (number : ℤ) (n : ℕ) → n < 2 ^ 63 → number ≡ pos n → IsTokenNumber number
of_natural number n small same = subst IsTokenNumber (sym same) (tt, small)

small : 0 < 2 ^ 63
small = omega arith

spelled-number : (kind : TokenKind) (bytes spelled : List ℕ) (number : ℤ) → Spells kind bytes spelled number → IsTokenNumber number
spelled-number Word bytes spelled number s = of_natural number _ small s.2
spelled-number Quoted bytes spelled number s = of_natural number _ small s.1
spelled-number Number bytes spelled number s = of_natural number _ s.3 s.2
spelled-number Text bytes spelled number s = of_natural number _ small s.1
spelled-number Symbol bytes spelled number s = of_natural number _ small s.1

piece-numbers : {at : ℕ} {bytes rest : List ℕ} {found : List Token} → Piece at bytes rest found → Each HasNumber found
piece-numbers (blank b) = none-each HasNumber
piece-numbers (comment inside ends) = none-each HasNumber
piece-numbers (token {bytes = bytes} {token = t} is ends) =
    cons-each HasNumber t [] (spelled-number t.kind bytes t.spelled t.number is.spells) (none-each HasNumber)

pub token-numbers : {at stop : ℕ} {text rest : List ℕ} {tokens : List Token} → LexesTo at text tokens stop rest → Each HasNumber tokens
token-numbers nothing = none-each HasNumber
token-numbers (piece {found = found} {tokens = tokens} splits here more) =
    append-each HasNumber found tokens (piece-numbers here) (token-numbers more)
