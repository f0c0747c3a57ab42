-- What stands at the front of a text is read there.
use Rattle.std.proofs.Common.{◌≡◌, ◌≤◌, ◌<◌, ◌^◌, ℕ, ℤ, pos, ◌+◌, true, false, ◌&&◌, List, [], ◌∷◌, ◌++◌, length, Some, None, refl, sym, ap, ◌∙◌, ⊎_elim, arith, append_assoc}
use Rattle.std.proofs.Math.Bool.{and-false}
use Rattle.std.specs.Prelude.{nat_eq, is_some}
use Rattle.std.specs.List.{list_all}
use Rattle.std.specs.Str.{str_to_ascii_lowercase}
use Rattle.std.specs.Str.Parse.{digits_value}
use Rattle.std.proofs.lemmas.Bool.{eqb-true, lt-ltb, le-ltb, cases_Bool, or_parts, and_from}
use Rattle.std.proofs.lemmas.List.{length-append}
use Rattle.std.proofs.Math.Seq.{take-append_seam}
use Rattle.std.proofs.lemmas.Option.{same_Some}
use Rattle.perm_values.proofs.Steps.{is_none-is}
use Rattle.sql_lexer.specs.declared.token.Token.{Token}
use Rattle.sql_lexer.specs.declared.token.TokenKind.{TokenKind}
use Rattle.sql_lexer.specs.declared.token.TokenKind.TheVariants.{Word, Quoted, Number, Text, Symbol}
use Rattle.sql_lexer.specs.declared.scan.Class.{Class}
use Rattle.sql_lexer.specs.declared.scan.Class.TheVariants.{Blank, Letter, Digit, Quote, Single, Other}
use Rattle.sql_lexer.specs.declared.lex_error.LexError.{LexError}
use Rattle.sql_lexer.specs.declared.lex_error.LexError.TheVariants.{NotUtf8, BadCharacter, Unterminated, NumberRange, NoMemory}
use Rattle.sql_lexer.specs.Bytes.{class_of, is_word, is_digit, is_comment, is_single, pair, held, next_is, doubled, in_quotes}
use Rattle.sql_lexer.specs.Lexes.{IsNumber, Spells, goes_on, Piece, blank, comment, token, IsWrong}
use Rattle.sql_lexer.specs.Reading.{Ends, Refused, one, token_of, word, number, closed, kind_of, unquoted, pair_at, symbol, comment_or_symbol, by_class, next}
use Rattle.sql_lexer.proofs.BetweenQuotes.{unquoted_found, unquoted_none}
use Rattle.sql_lexer.proofs.Classes.{blank_class, letter_joins, digit_joins, single_class, pair_class, dash_class}
use Rattle.sql_lexer.proofs.Fronts.{front_is}

-- by the class of the first byte
by : (class : Class) (at b : ℕ) (rest : List ℕ) → class_of b ≡ class → next at (b ∷ rest) ≡ by_class class at b rest
unfolding next
by class at b rest e = rw e refl

word_reads : (at : ℕ) (bytes rest : List ℕ) → list_all is_word bytes ≡ true → next_is is_word rest ≡ false
    → word at (bytes ++ rest) ≡ one Word at (at + length bytes) (str_to_ascii_lowercase bytes) (pos 0)
unfolding word
word_reads at bytes rest all stop = rw (front_is is_word bytes rest all stop, take-append_seam bytes rest) refl

number_reads : (at : ℕ) (bytes rest : List ℕ) → list_all is_digit bytes ≡ true → next_is is_digit rest ≡ false → digits_value 10 bytes < 2 ^ 63
    → number at (bytes ++ rest) ≡ one Number at (at + length bytes) bytes (pos (digits_value 10 bytes))
unfolding number
number_reads at bytes rest all stop small =
    rw (front_is is_digit bytes rest all stop, take-append_seam bytes rest, lt-ltb (digits_value 10 bytes) (2 ^ 63) small) refl

number_fails : (at : ℕ) (bytes rest : List ℕ) → list_all is_digit bytes ≡ true → next_is is_digit rest ≡ false → 2 ^ 63 ≤ digits_value 10 bytes
    → number at (bytes ++ rest) ≡ Refused (NumberRange at)
unfolding number
number_fails at bytes rest all stop large =
    rw (front_is is_digit bytes rest all stop, take-append_seam bytes rest, le-ltb (digits_value 10 bytes) (2 ^ 63) large) refl

-- a quoted token at the front
quoted_reads : (at quote : ℕ) (inside rest : List ℕ) → class_of quote ≡ Quote → next_is (λ c. nat_eq c quote) rest ≡ false
    → next at (in_quotes quote inside ++ rest) ≡ one (kind_of quote) at (at + length (in_quotes quote inside)) inside (pos 0)
quoted_reads at quote inside rest e stop =
    by Quote at quote ((doubled quote inside ++ quote ∷ []) ++ rest) e
    ∙ ap (λ r. closed at quote (unquoted quote r)) (append_assoc (doubled quote inside) (quote ∷ []) rest)
    ∙ ap (closed at quote) (unquoted_found quote inside rest stop)
    ∙ ap (λ n. one (kind_of quote) at n inside (pos 0)) (omega (arith, length-append (doubled quote inside) (quote ∷ [])))

quote_class : (class_of 34 ≡ Quote) × (class_of 39 ≡ Quote)
unfolding class_of
quote_class = (refl, refl)

-- no comment begins here
comment_or_symbol_is : (at b : ℕ) (rest : List ℕ) → (nat_eq b 45 && next_is (λ c. nat_eq c 45) rest) ≡ false → comment_or_symbol at b rest ≡ symbol at b (pair_at b rest)
unfolding comment_or_symbol
comment_or_symbol_is at b rest e = rw e refl

symbol_of_one : (at b : ℕ) (rest : List ℕ) → is_single b ≡ true → next_is (goes_on Symbol (b ∷ [])) rest ≡ false
    → comment_or_symbol at b rest ≡ one Symbol at (at + 1) (b ∷ []) (pos 0)
symbol_of_one at b [] is stop = comment_or_symbol_is at b [] (and-false (nat_eq b 45)) ∙ rw (single_class b is) refl
symbol_of_one at b (c ∷ rest) is stop =
    let parts = or_parts (is_some (pair b c)) (nat_eq b 45 && nat_eq c 45) stop in
    comment_or_symbol_is at b (c ∷ rest) parts.1 ∙ rw (is_none-is (pair b c) parts.0, single_class b is) refl

symbol_of_two : (at b c : ℕ) (rest spelled : List ℕ) → pair b c ≡ Some spelled → comment_or_symbol at b (c ∷ rest) ≡ one Symbol at (at + 2) spelled (pos 0)
symbol_of_two at b c rest spelled e = comment_or_symbol_is at b (c ∷ rest) (pair_class b c spelled e).1 ∙ ap (symbol at b) e

-- each kind of token
symbol_reads : (at : ℕ) (bytes rest spelled : List ℕ) → held bytes ≡ Some spelled → next_is (goes_on Symbol bytes) rest ≡ false
    → next at (bytes ++ rest) ≡ one Symbol at (at + length bytes) spelled (pos 0)
symbol_reads at [] rest spelled e stop = absurd (cc)
symbol_reads at (b ∷ []) rest spelled e stop =
    ⊎_elim (λ is. let same : Some (b ∷ []) ≡ Some spelled = rw is at e in
    by Single at b rest (single_class b is) ∙ symbol_of_one at b rest is stop ∙ ap (λ word. one Symbol at (at + 1) word (pos 0)) (same_Some _ _ same))
    (λ other. let none : None ≡ Some spelled = rw other at e in absurd (cc)) (cases_Bool (is_single b))
symbol_reads at (b ∷ c ∷ []) rest spelled e stop =
    ⊎_elim (λ is. by Single at b (c ∷ rest) is ∙ symbol_of_two at b c rest spelled e) (λ is. by Other at b (c ∷ rest) is ∙ symbol_of_two at b c rest spelled e)
    (pair_class b c spelled e).0
symbol_reads at (b ∷ c ∷ d ∷ bytes) rest spelled e stop = absurd (cc)

token_reads : (kind : TokenKind) (at : ℕ) (bytes rest spelled : List ℕ) (value : ℤ) → Spells kind bytes spelled value → next_is (goes_on kind bytes) rest ≡ false
    → next at (bytes ++ rest) ≡ one kind at (at + length bytes) spelled value
token_reads Word at [] rest spelled value s stop = absurd s.0
token_reads Word at (b ∷ bytes) rest spelled value s stop =
    by Letter at b (bytes ++ rest) s.0.0
    ∙ word_reads at (b ∷ bytes) rest (and_from (is_word b) (list_all is_word bytes) (letter_joins b s.0.0) s.0.1) stop ∙ rw (s.1, s.2) refl
token_reads Quoted at bytes rest spelled value s stop = rw (s.0, s.1) (quoted_reads at 34 spelled rest quote_class.0 stop)
token_reads Number at [] rest spelled value s stop = absurd s.0
token_reads Number at (b ∷ bytes) rest spelled value s stop =
    by Digit at b (bytes ++ rest) s.0.0
    ∙ number_reads at (b ∷ bytes) rest (and_from (is_digit b) (list_all is_digit bytes) (digit_joins b s.0.0) s.0.1) stop s.3 ∙ rw (s.1, s.2) refl
token_reads Text at bytes rest spelled value s stop = rw (s.0, s.1) (quoted_reads at 39 spelled rest quote_class.1 stop)
token_reads Symbol at bytes rest spelled value s stop = symbol_reads at bytes rest spelled s.0 stop ∙ rw s.1 refl

comment_reads : (at : ℕ) (inside rest : List ℕ) → list_all is_comment inside ≡ true → next_is is_comment rest ≡ false
    → comment_or_symbol at 45 (45 ∷ (inside ++ rest)) ≡ Ends (at + length (45 ∷ 45 ∷ inside)) []
unfolding comment_or_symbol
comment_reads at inside rest all stop = rw (front_is is_comment inside rest all stop) (ap (λ n. Ends n []) (omega arith))

pub piece_reads : {at : ℕ} {bytes rest : List ℕ} {found : List Token} → Piece at bytes rest found → next at (bytes ++ rest) ≡ Ends (at + length bytes) found
piece_reads (blank {at} {b} {rest} e) = by Blank at b rest (blank_class b e)
piece_reads (comment {at} {inside} {rest} all stop) = by Single at 45 (45 ∷ (inside ++ rest)) dash_class ∙ comment_reads at inside rest all stop
piece_reads (token {at} {bytes} {rest} {token} is stop) =
    token_reads token.kind at bytes rest token.spelled token.number is.spells stop
    ∙ ap (λ start. Ends (at + length bytes) (token_of token.kind start (at + length bytes) token.spelled token.number ∷ [])) (sym is.start)
    ∙ ap (λ end. Ends (at + length bytes) (token_of token.kind token.start end token.spelled token.number ∷ [])) (sym is.end)

pair_none : (b : ℕ) (rest : List ℕ) → next_is (λ c. is_some (pair b c)) rest ≡ false → pair_at b rest ≡ None
pair_none b [] stop = refl
pair_none b (c ∷ rest) stop = is_none-is (pair b c) stop

other_dash : (b : ℕ) → class_of b ≡ Other → nat_eq b 45 ≡ false
other_dash b e =
    ⊎_elim (λ is. let both : Single ≡ Other = sym dash_class ∙ ap class_of (sym (eqb-true b 45 is)) ∙ e in absurd (cc)) (λ other. other) (cases_Bool (nat_eq b 45))

other_fails : (at b : ℕ) (rest : List ℕ) → class_of b ≡ Other → next_is (λ c. is_some (pair b c)) rest ≡ false → comment_or_symbol at b rest ≡ Refused (BadCharacter at)
other_fails at b rest e stop = comment_or_symbol_is at b rest (rw (other_dash b e) refl) ∙ rw (pair_none b rest stop, e) refl

large_fails : (at : ℕ) (digits rest : List ℕ) → IsNumber digits → next_is is_digit rest ≡ false → 2 ^ 63 ≤ digits_value 10 digits
    → next at (digits ++ rest) ≡ Refused (NumberRange at)
large_fails at [] rest is stop large = absurd is
large_fails at (b ∷ digits) rest is stop large =
    by Digit at b (digits ++ rest) is.0
    ∙ number_fails at (b ∷ digits) rest (and_from (is_digit b) (list_all is_digit digits) (digit_joins b is.0) is.1) stop large

pub wrong_reads : (at : ℕ) (text : List ℕ) (error : LexError) → IsWrong at text error → next at text ≡ Refused error
wrong_reads at text (NotUtf8 place) w = absurd w
wrong_reads at text NoMemory w = absurd w
wrong_reads at [] (BadCharacter place) w = absurd w.1
wrong_reads at (b ∷ rest) (BadCharacter place) w = by Other at b rest w.1.0 ∙ other_fails at b rest w.1.0 w.1.1 ∙ ap (λ n. Refused (BadCharacter n)) (sym w.0)
wrong_reads at [] (Unterminated place) w = absurd w.1
wrong_reads at (quote ∷ rest) (Unterminated place) w =
    by Quote at quote rest w.1.0 ∙ rw (w.0, w.1.1.1, unquoted_none quote w.1.1.0) refl
wrong_reads at text (NumberRange place) w =
    ap (next at) w.1.4 ∙ large_fails at w.1.0 w.1.1 w.1.2 w.1.3 w.1.5 ∙ ap (λ n. Refused (NumberRange n)) (sym w.0)
