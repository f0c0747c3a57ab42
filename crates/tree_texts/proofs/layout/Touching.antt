-- Where a token ends: at a blank, and at a symbol that is free.
use Rattle.std.proofs.Common.{◌≡◌, ℕ, ℤ, Bool, true, false, ◌||◌, List, [], ◌∷◌, Some, refl, ap, arith}
use Rattle.std.proofs.Math.Bool.{and-false}
use Rattle.std.specs.Prelude.{nat_eq}
use Rattle.std.proofs.lemmas.Bool.Decides.{nat_tests}
use Rattle.sql_lexer.specs.declared.token.TokenKind.{TokenKind}
use Rattle.sql_lexer.specs.declared.token.TokenKind.TheVariants.{Word, Quoted, Number, Text, Symbol}
use Rattle.sql_lexer.specs.Bytes.{is_blank, is_single, joins_word, joins_number, is_word, is_digit, held, next_is}
use Rattle.sql_lexer.specs.Lexes.{goes_on}
use Rattle.sql_lexer.specs.Printing.{CanSpell}
use Rattle.sql_lexer.proofs.Classes.{blank_class, single_class}
use Rattle.tree_texts.specs.Texts.{shown_by}
use Rattle.tree_texts.specs.layout.Woven.{is_free}

-- ---- a token ends at such a byte

abbrev pub is_apart : ℕ → Bool
is_apart b = is_blank b || is_free b

pub blank_apart : (b : ℕ) → is_blank b ≡ true → is_apart b ≡ true
blank_apart b is = ap (λ blank. blank || is_free b) is

pub free_apart : (b : ℕ) → is_free b ≡ true → is_apart b ≡ true
free_apart b is = grind (arith, nat_tests)

no_quote : (b : ℕ) → is_apart b ≡ true → nat_eq b 34 ≡ false
no_quote b is = grind (arith, nat_tests)

no_apostrophe : (b : ℕ) → is_apart b ≡ true → nat_eq b 39 ≡ false
no_apostrophe b is = grind (arith, nat_tests)

no_greater : (b : ℕ) → is_apart b ≡ true → nat_eq b 62 ≡ false
no_greater b is = grind (arith, nat_tests)

no_equals : (b : ℕ) → is_apart b ≡ true → nat_eq b 61 ≡ false
no_equals b is = grind (arith, nat_tests)

no_dash : (b : ℕ) → is_apart b ≡ true → nat_eq b 45 ≡ false
no_dash b is = grind (arith, nat_tests)

free_single : (b : ℕ) → is_free b ≡ true → is_single b ≡ true
free_single b is = grind (arith, nat_tests)

no_join : (b : ℕ) (blank : Bool) → is_blank b ≡ blank → (blank || is_free b) ≡ true → (is_word b ≡ false) × (is_digit b ≡ false)
no_join b true is e = (ap joins_word (blank_class b is), ap joins_number (blank_class b is))
no_join b false is e = let class = single_class b (free_single b e) in (ap joins_word class, ap joins_number class)

symbol_stops : (spelled : List ℕ) (b : ℕ) → held spelled ≡ Some spelled → is_apart b ≡ true → goes_on Symbol spelled b ≡ false
symbol_stops [] b e is = absurd (cc)
symbol_stops (c ∷ []) b e is =
    rw (no_greater b is, no_equals b is, no_dash b is, and-false (nat_eq c 60), and-false (nat_eq c 33), and-false (nat_eq c 62), and-false (nat_eq c 45)) refl
symbol_stops (c ∷ d ∷ []) b e is = refl
symbol_stops (c ∷ d ∷ f ∷ more) b e is = absurd (cc)

pub stops : (kind : TokenKind) (spelled : List ℕ) (number : ℤ) (b : ℕ) → CanSpell kind spelled number → is_apart b ≡ true
    → goes_on kind (shown_by kind spelled number) b ≡ false
stops Word spelled number b s is = (no_join b (is_blank b) refl is).0
stops Quoted spelled number b s is = no_quote b is
stops Number spelled number b s is = (no_join b (is_blank b) refl is).1
stops Text spelled number b s is = no_apostrophe b is
stops Symbol spelled number b s is = symbol_stops spelled b s.0 is

-- ---- a symbol that is free ends at every byte

no_less : (b : ℕ) → is_free b ≡ true → nat_eq b 60 ≡ false
no_less b is = grind (arith, nat_tests)

no_exclamation : (b : ℕ) → is_free b ≡ true → nat_eq b 33 ≡ false
no_exclamation b is = grind (arith, nat_tests)

pub free_stops : (b : ℕ) (rest : List ℕ) → is_free b ≡ true → next_is (goes_on Symbol (b ∷ [])) rest ≡ false
free_stops b [] is = refl
free_stops b (c ∷ rest) is =
    rw (no_less b is, no_exclamation b is, no_greater b (free_apart b is), no_dash b (free_apart b is)) refl
