-- Tokens that are shown with a blank behind each are read again.
use Rattle.std.proofs.Common.{◌≡◌, ◌<◌, ◌≤◌, ℕ, zero, suc, ℤ, ◌+◌, ◌-◌, true, false, cond, List, [], ◌∷◌, ◌++◌, length, zero-add, add-zero, refl, sym, ap, subst, ◌∙◌, arith, append_assoc}
use Rattle.std.specs.Char.{to_ascii_lowercase, to_ascii_uppercase}
use Rattle.std.specs.List.{list_all, AllByRecursion}
use Rattle.std.specs.Str.{IsAscii, IsUtf8, str_to_ascii_lowercase, str_to_ascii_uppercase}
use Rattle.std.specs.Prelude.{nat_lt}
use Rattle.std.proofs.lemmas.Bool.{cond_both, ltb-true, ltb-false, and_from, and_parts}
use Rattle.std.proofs.lemmas.Bool.Decides.{nat_tests}
use Rattle.std.proofs.lemmas.List.{length-append, append-nil}
use Rattle.std.proofs.lemmas.Str.{IsUtf8-nil, IsUtf8-append, IsUtf8-from_ascii}
use Rattle.std.proofs.lemmas.Str.Ascii.{IsAscii-map, uppercase_ascii, lowercase-uppercase}
use Rattle.sql_lexer.specs.declared.token.Token.{Token}
use Rattle.sql_lexer.specs.declared.token.TokenKind.{TokenKind}
use Rattle.sql_lexer.specs.declared.token.TokenKind.TheVariants.{Word, Quoted, Number, Text, Symbol}
use Rattle.sql_lexer.specs.Bytes.{class_of, is_word, joins_word}
use Rattle.sql_lexer.specs.Lexes.{IsWord, Piece, blank, token, LexesTo, nothing, piece, Lexes}
use Rattle.sql_lexer.specs.Printing.{bytes_of, CanSpell, IsSpellable}
use Rattle.sql_lexer.proofs.Ascii.{one_utf8}
use Rattle.sql_lexer.proofs.Classes.{letter_joins, word_ascii}
use Rattle.sql_lexer.proofs.Printed.{piece_again, script_again}
use Rattle.tree_texts.specs.Standing.{Span, Places, at_span, standing, CanStand}
use Rattle.tree_texts.specs.Texts.{shown_by, shown, shown_tokens, places_from}

-- ---- a word in capital letters

-- 97 is a letter
upper_letter : (b : ℕ) → class_of b ≡ class_of 97 → class_of (to_ascii_uppercase b) ≡ class_of 97
unfolding class_of
upper_letter b e = grind (arith, nat_tests)

capital : (b : ℕ) → 65 ≤ b → b ≤ 90 → class_of b ≡ class_of 97
unfolding class_of
capital b low high = grind (arith, nat_tests)

letter_is_word : (b : ℕ) → class_of b ≡ class_of 97 → is_word b ≡ true
unfolding class_of
letter_is_word b e = ap joins_word e

upper_joins : (b : ℕ) → is_word b ≡ true → is_word (to_ascii_uppercase b) ≡ true
upper_joins b joins =
    cond_both (nat_lt b 97) b (cond (nat_lt b 123) (b - 32) b) (λ c. is_word c ≡ true) (λ below. joins)
    (λ above. cond_both (nat_lt b 123) (b - 32) b (λ c. is_word c ≡ true)
    (λ below. let low : 97 ≤ b = ltb-false b 97 above in
    let high : b < 123 = ltb-true b 123 below in
    letter_is_word (b - 32) (capital (b - 32) (omega arith) (omega arith)))
    (λ beyond. joins))

upper_all : (bytes : List ℕ) → list_all is_word bytes ≡ true → list_all is_word (str_to_ascii_uppercase bytes) ≡ true
upper_all [] all = refl
upper_all (b ∷ bytes) all =
    let parts = and_parts (is_word b) (list_all is_word bytes) all in
    and_from (is_word (to_ascii_uppercase b)) (list_all is_word (str_to_ascii_uppercase bytes)) (upper_joins b parts.0) (upper_all bytes parts.1)

upper_word : (bytes : List ℕ) → IsWord bytes → IsWord (str_to_ascii_uppercase bytes)
unfolding class_of
upper_word [] is = is
upper_word (b ∷ bytes) is = (upper_letter b is.0, upper_all bytes is.1)

lower_upper : (bytes : List ℕ) → str_to_ascii_lowercase (str_to_ascii_uppercase bytes) ≡ str_to_ascii_lowercase bytes
lower_upper [] = refl
lower_upper (b ∷ bytes) =
    ap (λ c. c ∷ str_to_ascii_lowercase (str_to_ascii_uppercase bytes)) (lowercase-uppercase b)
    ∙ ap (λ r. to_ascii_lowercase b ∷ r) (lower_upper bytes)

space_ends_word : is_word 32 ≡ false
unfolding class_of
space_ends_word = refl

-- ---- a token

abbrev pub span_of : ℕ → TokenKind → List ℕ → ℤ → Span
span_of at kind spelled number = record { start = at; end = at + length (shown_by kind spelled number) }

abbrev token_by : TokenKind → ℕ → ℕ → List ℕ → ℤ → Token
token_by kind start end spelled number = record { kind = kind; start = start; end = end; spelled = spelled; number = number }

piece_by : (at start end : ℕ) (kind : TokenKind) (spelled : List ℕ) (number : ℤ) (rest : List ℕ) → CanSpell kind spelled number
    → Piece at (shown_by kind spelled number) (32 ∷ rest) (at_span (span_of at kind spelled number) (token_by kind start end spelled number) ∷ [])
piece_by at start end Word spelled number rest s =
    token (record { start = refl; end = refl; spells = (upper_word spelled s.0, s.1 ∙ sym (lower_upper spelled), s.2) }) space_ends_word
piece_by at start end Quoted spelled number rest s = piece_again at (token_by Quoted start end spelled number) rest s
piece_by at start end Number spelled number rest s = piece_again at (token_by Number start end spelled number) rest s
piece_by at start end Text spelled number rest s = piece_again at (token_by Text start end spelled number) rest s
piece_by at start end Symbol spelled number rest s = piece_again at (token_by Symbol start end spelled number) rest s

pub piece_shown : (at : ℕ) (t : Token) (rest : List ℕ) → IsSpellable t
    → Piece at (shown t) (32 ∷ rest) (at_span (span_of at t.kind t.spelled t.number) t ∷ [])
piece_shown at t rest s = piece_by at t.start t.end t.kind t.spelled t.number rest s

-- ---- all tokens

pub shifted : (places : Places) (i : ℕ) (tokens : List Token) → standing places (suc i) tokens ≡ standing (λ k. places (suc k)) i tokens
shifted places i [] = refl
shifted places i (t ∷ tokens) = ap (λ ts. at_span (places (suc i)) t ∷ ts) (shifted places (suc i) tokens)

pub read_shown : (at : ℕ) (tokens : List Token) (rest : List ℕ) → AllByRecursion IsSpellable tokens
    → LexesTo at (shown_tokens tokens ++ rest) (standing (places_from at tokens) 0 tokens) (at + length (shown_tokens tokens)) rest
read_shown at [] rest all = subst (λ n. LexesTo at rest [] n rest) (sym (add-zero at)) nothing
read_shown at (t ∷ tokens) rest all =
    let next = at + length (shown t) + 1 in
    let cut : ((shown t ++ 32 ∷ []) ++ shown_tokens tokens) ++ rest ≡ shown t ++ (32 ∷ (shown_tokens tokens ++ rest)) = simp append_assoc in
    let ends : next + length (shown_tokens tokens) ≡ at + length ((shown t ++ 32 ∷ []) ++ shown_tokens tokens) =
    omega (arith, length-append (shown t ++ 32 ∷ []) (shown_tokens tokens), length-append (shown t) (32 ∷ [])) in
    let first = at_span (span_of at t.kind t.spelled t.number) t in
    let others : standing (places_from next tokens) 0 tokens ≡ standing (places_from at (t ∷ tokens)) 1 tokens = sym (shifted (places_from at (t ∷ tokens)) 0 tokens) in
    let inner = read_shown next tokens rest all.1 in
    subst (λ n. LexesTo at (((shown t ++ 32 ∷ []) ++ shown_tokens tokens) ++ rest) (first ∷ standing (places_from at (t ∷ tokens)) 1 tokens) n rest) ends
    (piece cut (piece_shown at t (shown_tokens tokens ++ rest) all.0) (piece {bytes = 32 ∷ []} refl (blank refl)
    (subst (λ ts. LexesTo next (shown_tokens tokens ++ rest) ts (next + length (shown_tokens tokens)) rest) others inner)))

-- ---- UTF-8

word_is_ascii : (bytes : List ℕ) → list_all is_word bytes ≡ true → IsAscii bytes
word_is_ascii [] all i = omega arith
word_is_ascii (b ∷ bytes) all zero = word_ascii b (and_parts (is_word b) (list_all is_word bytes) all).0
word_is_ascii (b ∷ bytes) all (suc i) = word_is_ascii bytes (and_parts (is_word b) (list_all is_word bytes) all).1 i

all_joins : (bytes : List ℕ) → IsWord bytes → list_all is_word bytes ≡ true
all_joins [] is = absurd is
all_joins (b ∷ bytes) is = and_from (is_word b) (list_all is_word bytes) (letter_joins b is.0) is.1

upper_utf8 : (bytes : List ℕ) → IsWord bytes → IsUtf8 (str_to_ascii_uppercase bytes)
upper_utf8 bytes is = IsUtf8-from_ascii _ (IsAscii-map to_ascii_uppercase bytes uppercase_ascii (word_is_ascii bytes (all_joins bytes is)))

-- the other tokens are shown as the lexer prints them
plain_utf8 : (kind : TokenKind) (spelled : List ℕ) (number : ℤ) → CanSpell kind spelled number → IsUtf8 spelled
    → IsUtf8 (bytes_of kind spelled number ++ 32 ∷ [])
plain_utf8 kind spelled number s utf8 =
    subst IsUtf8 (append-nil (bytes_of kind spelled number ++ 32 ∷ [])) (script_again (token_by kind 0 0 spelled number ∷ []) (s, tt) (utf8, tt)).utf8

pub one_shown_utf8 : (kind : TokenKind) (spelled : List ℕ) (number : ℤ) → CanSpell kind spelled number → IsUtf8 spelled
    → IsUtf8 (shown_by kind spelled number ++ 32 ∷ [])
one_shown_utf8 Word spelled number s utf8 =
    IsUtf8-append (str_to_ascii_uppercase spelled) (32 ∷ []) (upper_utf8 spelled s.0) (one_utf8 32 (omega arith))
one_shown_utf8 Quoted spelled number s utf8 = plain_utf8 Quoted spelled number s utf8
one_shown_utf8 Number spelled number s utf8 = plain_utf8 Number spelled number s utf8
one_shown_utf8 Text spelled number s utf8 = plain_utf8 Text spelled number s utf8
one_shown_utf8 Symbol spelled number s utf8 = plain_utf8 Symbol spelled number s utf8

shown_utf8 : (tokens : List Token) → AllByRecursion CanStand tokens → IsUtf8 (shown_tokens tokens)
shown_utf8 [] all = IsUtf8-nil
shown_utf8 (t ∷ tokens) all =
    IsUtf8-append (shown t ++ 32 ∷ []) (shown_tokens tokens) (one_shown_utf8 t.kind t.spelled t.number all.0.0 all.0.1) (shown_utf8 tokens all.1)

pub all_spellable : (tokens : List Token) → AllByRecursion CanStand tokens → AllByRecursion IsSpellable tokens
all_spellable [] all = tt
all_spellable (t ∷ tokens) all = (all.0.0, all_spellable tokens all.1)

pub shown_is_read : (tokens : List Token) → AllByRecursion CanStand tokens
    → Lexes (shown_tokens tokens) (standing (places_from 0 tokens) 0 tokens)
shown_is_read tokens all =
    let found = standing (places_from 0 tokens) 0 tokens in
    record {
      utf8 = shown_utf8 tokens all;
      whole = subst (λ text. LexesTo 0 text found (length (shown_tokens tokens)) []) (append-nil (shown_tokens tokens))
          (subst (λ n. LexesTo 0 (shown_tokens tokens ++ []) found n []) (zero-add (length (shown_tokens tokens)))
          (read_shown 0 tokens [] (all_spellable tokens all)));
    }
