-- What is read at the front of a text stands there.
use Rattle.std.proofs.Common.{◌≡◌, ◌⊎◌, ◌^◌, inl, inr, ℕ, pos, ◌+◌, Bool, true, false, ◌&&◌, ltb, List, [], ◌∷◌, ◌++◌, length, take, drop, Option, Some, None, refl, sym, ap, subst, ◌∙◌, ⊎_elim, arith, append_assoc}
use Rattle.std.specs.Prelude.{nat_eq, is_some}
use Rattle.std.specs.List.{prefix_len}
use Rattle.std.specs.Str.Parse.{digits_value}
use Rattle.std.proofs.lemmas.Bool.{eqb-true, ltb-true, ltb-false, cond_both, or_from, and_parts}
use Rattle.std.proofs.lemmas.List.{length-append, take-append-drop}
use Rattle.std.proofs.lemmas.List.Folds.{length-prefix_len}
use Rattle.sql_lexer.specs.declared.token.TokenKind.TheVariants.{Number, Symbol}
use Rattle.sql_lexer.specs.declared.scan.Class.{Class}
use Rattle.sql_lexer.specs.declared.scan.Class.TheVariants.{Blank, Letter, Digit, Quote, Single, Other}
use Rattle.sql_lexer.specs.declared.lex_error.LexError.TheVariants.{BadCharacter, NumberRange}
use Rattle.sql_lexer.specs.Bytes.{class_of, is_word, is_digit, is_comment, pair, held, next_is, doubled, in_quotes, stands_alone}
use Rattle.sql_lexer.specs.Lexes.{IsWord, IsNumber, goes_on, Piece, blank, comment, token, IsWrong}
use Rattle.sql_lexer.specs.Reading.{Unquoted, Front, Nothing, Ends, Refused, one, token_of, word, number, closed, kind_of, unquoted, pair_at, single, symbol, comment_or_symbol, by_class, next}
use Rattle.sql_lexer.proofs.BetweenQuotes.{Says, says}
use Rattle.sql_lexer.proofs.Classes.{blank_test, letter_joins, digit_joins, quote_cases, single_test}
use Rattle.sql_lexer.proofs.Fronts.{front_more, front_passes, front_stops}

-- what it means that this was read
abbrev pub IsRead : ℕ → List ℕ → Front → Type 0
IsRead at text Nothing = text ≡ []
IsRead at text (Ends end found) = (bytes : List ℕ) × (more : List ℕ) × (text ≡ bytes ++ more) × (end ≡ at + length bytes) × Piece at bytes more found
IsRead at text (Refused error) = IsWrong at text error

word_front : (b : ℕ) (rest : List ℕ) → class_of b ≡ Letter → IsWord (take (prefix_len is_word (b ∷ rest)) (b ∷ rest))
word_front b rest e = rw (front_more is_word b rest (letter_joins b e)) (e, front_passes is_word rest)

number_front : (b : ℕ) (rest : List ℕ) → class_of b ≡ Digit → IsNumber (take (prefix_len is_digit (b ∷ rest)) (b ∷ rest))
number_front b rest e = rw (front_more is_digit b rest (digit_joins b e)) (e, front_passes is_digit rest)

-- a front that passes a test, and what follows it, are the text
cut : (p : ℕ → Bool) (text : List ℕ) → text ≡ take (prefix_len p text) text ++ drop (prefix_len p text) text
cut p text = sym (take-append-drop (prefix_len p text) text)

ends_at : (at : ℕ) (p : ℕ → Bool) (text : List ℕ) → at + prefix_len p text ≡ at + length (take (prefix_len p text) text)
ends_at at p text = ap (λ n. at + n) (sym (length-prefix_len p text))

word_read : (at b : ℕ) (rest : List ℕ) → class_of b ≡ Letter → IsRead at (b ∷ rest) (word at (b ∷ rest))
unfolding word
word_read at b rest e =
    let text = b ∷ rest in (
      take (prefix_len is_word text) text,
      drop (prefix_len is_word text) text,
      cut is_word text,
      ends_at at is_word text,
      token (record { start = refl; end = ends_at at is_word text; spells = (word_front b rest e, refl, refl) }) (front_stops is_word text),
    )

number_read : (at b : ℕ) (rest : List ℕ) → class_of b ≡ Digit → IsRead at (b ∷ rest) (number at (b ∷ rest))
unfolding number
number_read at b rest e =
    let text = b ∷ rest in
    let len = prefix_len is_digit text in
    let digits = take len text in
    cond_both (ltb (digits_value 10 digits) (2 ^ 63)) (one Number at (at + len) digits (pos (digits_value 10 digits))) (Refused (NumberRange at)) (IsRead at text)
    (λ small. (
      digits,
      drop len text,
      cut is_digit text,
      ends_at at is_digit text,
      token (record { start = refl; end = ends_at at is_digit text; spells = (number_front b rest e, refl, refl, ltb-true _ _ small) }) (front_stops is_digit text),
    ))
    (λ large. (refl, (digits, drop len text, number_front b rest e, front_stops is_digit text, cut is_digit text, ltb-false _ _ large)))

-- a name or a text, by its quote
abbrev IsQuotedPiece : ℕ → List ℕ → Unquoted → ℕ → Type 0
IsQuotedPiece at after found quote = next_is (λ c. nat_eq c quote) after ≡ false → found.len ≡ length (doubled quote found.inside) + 1
    → Piece at (in_quotes quote found.inside) after (token_of (kind_of quote) at (at + (1 + found.len)) found.inside (pos 0) ∷ [])

name_piece : (at : ℕ) (after : List ℕ) (found : Unquoted) → IsQuotedPiece at after found 34
name_piece at after found stop len =
    token (record { start = refl; end = omega (arith, len, length-append (doubled 34 found.inside) (34 ∷ [])); spells = (refl, refl) }) stop

text_piece : (at : ℕ) (after : List ℕ) (found : Unquoted) → IsQuotedPiece at after found 39
text_piece at after found stop len =
    token (record { start = refl; end = omega (arith, len, length-append (doubled 39 found.inside) (39 ∷ [])); spells = (refl, refl) }) stop

quoted_piece : (at quote : ℕ) (after : List ℕ) (found : Unquoted) → (quote ≡ 34) ⊎ (quote ≡ 39) → IsQuotedPiece at after found quote
quoted_piece at quote after found (inl is) = subst (IsQuotedPiece at after found) (sym is) (name_piece at after found)
quoted_piece at quote after found (inr is) = subst (IsQuotedPiece at after found) (sym is) (text_piece at after found)

quoted_read : (at quote : ℕ) (rest : List ℕ) (found : Option Unquoted) → class_of quote ≡ Quote → Says quote rest found → IsRead at (quote ∷ rest) (closed at quote found)
quoted_read at quote rest None e s = (refl, (e, s))
quoted_read at quote rest (Some found) e s = (
  in_quotes quote found.inside,
  s.0,
  ap (λ r. quote ∷ r) (s.1 ∙ sym (append_assoc (doubled quote found.inside) (quote ∷ []) s.0)),
  omega (arith, s.3, length-append (doubled quote found.inside) (quote ∷ [])),
  quoted_piece at quote s.0 found (quote_cases quote e) s.2 s.3,
)

alone_single : (class : Class) → stands_alone class ≡ true → class ≡ Single
alone_single Single e = refl
alone_single Letter e = absurd (cc)
alone_single Digit e = absurd (cc)
alone_single Blank e = absurd (cc)
alone_single Quote e = absurd (cc)
alone_single Other e = absurd (cc)

-- no pair and no comment begins here
lone : (b : ℕ) (rest : List ℕ) → pair_at b rest ≡ None → (nat_eq b 45 && next_is (λ c. nat_eq c 45) rest) ≡ false
    → next_is (goes_on Symbol (b ∷ [])) rest ≡ false
lone b [] e f = refl
lone b (c ∷ rest) e f = or_from (is_some (pair b c)) (nat_eq b 45 && nat_eq c 45) (ap is_some e) f

no_pair : (b : ℕ) (rest : List ℕ) → pair_at b rest ≡ None → next_is (λ c. is_some (pair b c)) rest ≡ false
no_pair b [] e = refl
no_pair b (c ∷ rest) e = ap is_some e

single_read : (at b : ℕ) (rest : List ℕ) → (class_of b ≡ Single) ⊎ (class_of b ≡ Other) → pair_at b rest ≡ None
    → (nat_eq b 45 && next_is (λ c. nat_eq c 45) rest) ≡ false → IsRead at (b ∷ rest) (single at b)
single_read at b rest classes e f =
    cond_both (stands_alone (class_of b)) (one Symbol at (at + 1) (b ∷ []) (pos 0)) (Refused (BadCharacter at)) (IsRead at (b ∷ rest))
    (λ alone. (
      b ∷ [],
      rest,
      refl,
      refl,
      token (record { start = refl; end = refl; spells = (rw (single_test b (alone_single (class_of b) alone)) refl, refl) }) (lone b rest e f),
    ))
    (λ other. (refl, (⊎_elim (λ is. let both : true ≡ false = sym (ap stands_alone is) ∙ other in absurd (cc)) (λ is. is) classes, no_pair b rest e)))

three : (b c : ℕ) (rest : List ℕ) → next_is (goes_on Symbol (b ∷ c ∷ [])) rest ≡ false
three b c [] = refl
three b c (d ∷ rest) = refl

symbol_read : (at b : ℕ) (rest : List ℕ) (found : Option (List ℕ)) → (class_of b ≡ Single) ⊎ (class_of b ≡ Other) → pair_at b rest ≡ found
    → (nat_eq b 45 && next_is (λ c. nat_eq c 45) rest) ≡ false → IsRead at (b ∷ rest) (symbol at b found)
symbol_read at b rest None classes e f = single_read at b rest classes e f
symbol_read at b [] (Some held) classes e f = absurd (cc)
symbol_read at b (c ∷ rest) (Some held) classes e f =
    (b ∷ c ∷ [], rest, refl, refl, token (record { start = refl; end = refl; spells = (e, refl) }) (three b c rest))

comment_read : (at b : ℕ) (rest : List ℕ) → (nat_eq b 45 && next_is (λ c. nat_eq c 45) rest) ≡ true
    → IsRead at (b ∷ rest) (Ends (at + (2 + prefix_len is_comment (drop 1 rest))) [])
comment_read at b [] e = let parts = and_parts (nat_eq b 45) false e in absurd (cc (parts.1))
comment_read at b (c ∷ line) e =
    let parts = and_parts (nat_eq b 45) (nat_eq c 45) e in
    let inside = take (prefix_len is_comment line) line in (
      45 ∷ 45 ∷ inside,
      drop (prefix_len is_comment line) line,
      rw (eqb-true b 45 parts.0, eqb-true c 45 parts.1) (ap (λ r. 45 ∷ 45 ∷ r) (cut is_comment line)),
      omega (arith, length-prefix_len is_comment line),
      comment (front_passes is_comment line) (front_stops is_comment line),
    )

comment_or_symbol_read : (at b : ℕ) (rest : List ℕ) → (class_of b ≡ Single) ⊎ (class_of b ≡ Other) → IsRead at (b ∷ rest) (comment_or_symbol at b rest)
unfolding comment_or_symbol
comment_or_symbol_read at b rest classes =
    cond_both (nat_eq b 45 && next_is (λ c. nat_eq c 45) rest) (Ends (at + (2 + prefix_len is_comment (drop 1 rest))) []) (symbol at b (pair_at b rest)) (IsRead at (b ∷ rest))
    (λ dashes. comment_read at b rest dashes) (λ other. symbol_read at b rest (pair_at b rest) classes refl other)

class_read : (class : Class) (at b : ℕ) (rest : List ℕ) → class_of b ≡ class → IsRead at (b ∷ rest) (by_class class at b rest)
class_read Blank at b rest e = (b ∷ [], rest, refl, refl, blank (blank_test b e))
class_read Letter at b rest e = word_read at b rest e
class_read Digit at b rest e = number_read at b rest e
class_read Quote at b rest e = quoted_read at b rest (unquoted b rest) e (says b rest)
class_read Single at b rest e = comment_or_symbol_read at b rest (inl e)
class_read Other at b rest e = comment_or_symbol_read at b rest (inr e)

pub is_read : (at : ℕ) (text : List ℕ) → IsRead at text (next at text)
unfolding next
is_read at [] = refl
is_read at (b ∷ rest) = class_read (class_of b) at b rest refl
