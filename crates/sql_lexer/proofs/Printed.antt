-- Tokens that are printed with a space behind each are read again.
use Rattle.std.proofs.Common.{◌≡◌, ◌≢◌, ◌<◌, ◌^◌, ℕ, ℤ, pos, suc, ◌+◌, true, false, cond, List, [], ◌∷◌, ◌++◌, length, get_or, zero-add, Some, refl, sym, ap, subst, ◌∙◌, ⊎_elim, arith, append_assoc, add-zero, eq-eqb}
use Rattle.std.proofs.Math.Bool.{and-false}
use Rattle.std.specs.Prelude.{nat_eq}
use Rattle.std.specs.Fmt.{decimal}
use Rattle.std.specs.List.{list_all, AllByRecursion}
use Rattle.std.specs.Str.{IsUtf8}
use Rattle.std.proofs.Math.Utf8.{scalar, scalars, encode, encodes}
use Rattle.std.proofs.lemmas.Bool.{cases_Bool, eqb-true, false_from_ne_true, and_parts}
use Rattle.std.proofs.lemmas.Fmt.{digits_decimal, digits_value-decimal, decimal_nonempty, IsAscii-decimal}
use Rattle.std.proofs.lemmas.Grind.{flat_map-append}
use Rattle.std.proofs.lemmas.List.{length-append, append-nil}
use Rattle.std.proofs.lemmas.Str.{IsUtf8-nil, IsUtf8-append, IsUtf8-encode, IsUtf8-from_ascii, encode_ascii}
use Rattle.sql_lexer.specs.declared.token.Token.{Token}
use Rattle.sql_lexer.specs.declared.token.TokenKind.{TokenKind}
use Rattle.sql_lexer.specs.declared.token.TokenKind.TheVariants.{Word, Quoted, Number, Text, Symbol}
use Rattle.sql_lexer.specs.Bytes.{class_of, is_word, is_digit, held, next_is, doubled, in_quotes}
use Rattle.sql_lexer.specs.Lexes.{IsNumber, Spells, goes_on, Piece, blank, token, LexesTo, nothing, piece, Lexes}
use Rattle.sql_lexer.specs.Printing.{bytes_of, spelling, CanSpell, IsSpellable, plain_spelled, at_place, spaced, placed}
use Rattle.sql_lexer.proofs.Ascii.{one_utf8}
use Rattle.sql_lexer.proofs.BetweenQuotes.{doubled_quote, doubled_other}
use Rattle.sql_lexer.proofs.Classes.{digit_is}
use Rattle.sql_lexer.proofs.InsideUtf8.{clean_char}
use Rattle.sql_lexer.proofs.Numbers.{numerals}

space_ends : (is_word 32 ≡ false) × (is_digit 32 ≡ false)
unfolding class_of
space_ends = (refl, refl)

all_number : (bytes : List ℕ) → list_all is_digit bytes ≡ true → 0 < length bytes → IsNumber bytes
all_number [] all some = absurd (omega arith)
all_number (b ∷ bytes) all some = let parts = and_parts (is_digit b) (list_all is_digit bytes) all in (digit_is b parts.0, parts.1)

symbol_ends : (spelled rest : List ℕ) → held spelled ≡ Some spelled → next_is (goes_on Symbol spelled) (32 ∷ rest) ≡ false
symbol_ends [] rest e = absurd (cc)
symbol_ends (b ∷ []) rest e = rw (and-false (nat_eq b 60), and-false (nat_eq b 33), and-false (nat_eq b 62), and-false (nat_eq b 45)) refl
symbol_ends (b ∷ c ∷ []) rest e = refl
symbol_ends (b ∷ c ∷ d ∷ more) rest e = absurd (cc)

spells_again : (kind : TokenKind) (spelled : List ℕ) (number : ℤ) → CanSpell kind spelled number → Spells kind (bytes_of kind spelled number) (plain_spelled kind spelled number) number
spells_again Word spelled number s = s
spells_again Quoted spelled number s = (refl, s)
spells_again Number spelled number s =
    let fits : s.0 < 2 ^ 64 = omega (arith, s.1) in
    let value = digits_value-decimal numerals s.0 fits in
    rw s.2 (all_number (decimal s.0) (digits_decimal numerals s.0 fits) (decimal_nonempty s.0 fits), refl, ap pos (sym value), omega (arith, value, s.1))
spells_again Text spelled number s = (refl, s)
spells_again Symbol spelled number s = s

ends_again : (kind : TokenKind) (spelled rest : List ℕ) (number : ℤ) → CanSpell kind spelled number → next_is (goes_on kind (bytes_of kind spelled number)) (32 ∷ rest) ≡ false
ends_again Word spelled rest number s = space_ends.0
ends_again Quoted spelled rest number s = refl
ends_again Number spelled rest number s = space_ends.1
ends_again Text spelled rest number s = refl
ends_again Symbol spelled rest number s = symbol_ends spelled rest s.0

pub piece_again : (at : ℕ) (t : Token) (rest : List ℕ) → IsSpellable t → Piece at (spelling t) (32 ∷ rest) (at_place at t ∷ [])
piece_again at t rest s =
    token (record { start = refl; end = refl; spells = spells_again t.kind t.spelled t.number s }) (ends_again t.kind t.spelled rest t.number s)

pub read_again : (at : ℕ) (tokens : List Token) (rest : List ℕ) → AllByRecursion IsSpellable tokens
    → LexesTo at (spaced tokens ++ rest) (placed at tokens) (at + length (spaced tokens)) rest
read_again at [] rest all = subst (λ n. LexesTo at rest [] n rest) (sym (add-zero at)) nothing
read_again at (t ∷ tokens) rest all =
    let next = at + length (spelling t) + 1 in
    let cut : ((spelling t ++ 32 ∷ []) ++ spaced tokens) ++ rest ≡ spelling t ++ (32 ∷ (spaced tokens ++ rest)) = simp append_assoc in
    let ends : next + length (spaced tokens) ≡ at + length ((spelling t ++ 32 ∷ []) ++ spaced tokens) =
    omega (arith, length-append (spelling t ++ 32 ∷ []) (spaced tokens), length-append (spelling t) (32 ∷ [])) in
    let inner : LexesTo next (spaced tokens ++ rest) (placed next tokens) (next + length (spaced tokens)) rest = read_again next tokens rest all.1 in
    subst (λ n. LexesTo at (((spelling t ++ 32 ∷ []) ++ spaced tokens) ++ rest) (placed at (t ∷ tokens)) n rest) ends
    (piece cut (piece_again at t (spaced tokens ++ rest) all.0) (piece {bytes = 32 ∷ []} refl (blank refl) inner))

-- quotes may be doubled in UTF-8
doubled_clean : (quote : ℕ) (bytes : List ℕ) → ((k : ℕ) → k < length bytes → get_or bytes k 0 ≢ quote) → doubled quote bytes ≡ bytes
doubled_clean quote [] clean = refl
doubled_clean quote (b ∷ bytes) clean =
    doubled_other quote b bytes (false_from_ne_true (nat_eq b quote) (λ is. clean 0 (omega arith) (eqb-true b quote is)))
    ∙ ap (λ r. b ∷ r) (doubled_clean quote bytes (λ k lt. clean (suc k) (omega arith)))

doubled_chars : (quote : ℕ) (cs : List ℕ) → quote < 128 → scalars cs ≡ true → IsUtf8 (doubled quote (encodes cs))
doubled_chars quote [] low each = IsUtf8-nil
doubled_chars quote (c ∷ cs) low each =
    let parts = and_parts (scalar c) (scalars cs) each in
    let rest : IsUtf8 (doubled quote (encodes cs)) = doubled_chars quote cs low parts.1 in
    subst IsUtf8 (sym (flat_map-append (λ b. cond (nat_eq b quote) (quote ∷ quote ∷ []) (b ∷ [])) (encode c) (encodes cs)))
    (IsUtf8-append (doubled quote (encode c)) (doubled quote (encodes cs))
    (⊎_elim (λ is. let one = one_utf8 quote low in
    subst IsUtf8 (sym (ap (doubled quote) (ap encode (eqb-true c quote is) ∙ encode_ascii quote low) ∙ doubled_quote quote [])) (IsUtf8-append (quote ∷ []) (quote ∷ []) one one))
    (λ other. subst IsUtf8 (sym (doubled_clean quote (encode c) (clean_char quote c low (λ is. let both : true ≡ false = sym (eq-eqb c quote is) ∙ other in absurd (cc)))))
    (IsUtf8-encode c parts.0))
    (cases_Bool (nat_eq c quote)))
    rest)

quotes_utf8 : (quote : ℕ) (inside : List ℕ) → quote < 128 → IsUtf8 inside → IsUtf8 (in_quotes quote inside)
quotes_utf8 quote inside low utf8 =
    let one = one_utf8 quote low in
    let within : IsUtf8 (doubled quote inside) = subst (λ text. IsUtf8 (doubled quote text)) utf8.1.1 (doubled_chars quote utf8.0 low utf8.1.0) in
    IsUtf8-append (quote ∷ []) (doubled quote inside ++ quote ∷ []) one (IsUtf8-append (doubled quote inside) (quote ∷ []) within one)

spelled_utf8 : (kind : TokenKind) (spelled : List ℕ) (number : ℤ) → CanSpell kind spelled number → IsUtf8 spelled → IsUtf8 (bytes_of kind spelled number)
spelled_utf8 Word spelled number s utf8 = utf8
spelled_utf8 Quoted spelled number s utf8 = quotes_utf8 34 spelled (omega arith) utf8
spelled_utf8 Number spelled number s utf8 = rw s.2 (IsUtf8-from_ascii (decimal s.0) (IsAscii-decimal s.0 (omega (arith, s.1))))
spelled_utf8 Text spelled number s utf8 = quotes_utf8 39 spelled (omega arith) utf8
spelled_utf8 Symbol spelled number s utf8 = utf8

spaced_utf8 : (tokens : List Token) → AllByRecursion IsSpellable tokens → AllByRecursion (λ t. IsUtf8 t.spelled) tokens → IsUtf8 (spaced tokens)
spaced_utf8 [] all utf8 = IsUtf8-nil
spaced_utf8 (t ∷ tokens) all utf8 =
    IsUtf8-append (spelling t ++ 32 ∷ []) (spaced tokens)
    (IsUtf8-append (spelling t) (32 ∷ []) (spelled_utf8 t.kind t.spelled t.number all.0 utf8.0) (one_utf8 32 (omega arith))) (spaced_utf8 tokens all.1 utf8.1)

pub script_again : (tokens : List Token) → AllByRecursion IsSpellable tokens → AllByRecursion (λ t. IsUtf8 t.spelled) tokens → Lexes (spaced tokens) (placed 0 tokens)
script_again tokens all utf8 =
    record {
      utf8 = spaced_utf8 tokens all utf8;
      whole = subst (λ text. LexesTo 0 text (placed 0 tokens) (length (spaced tokens)) []) (append-nil (spaced tokens))
          (subst (λ n. LexesTo 0 (spaced tokens ++ []) (placed 0 tokens) n []) (zero-add (length (spaced tokens))) (read_again 0 tokens [] all));
    }
