use Rattle.std.proofs.Common.{◌≡◌, ℕ, ◌<◌, ◌⊎◌, true, false, ◌&&◌, eqb, List, Some, inl, inr, ⊎_elim, refl, ap, arith}
use Rattle.std.proofs.lemmas.Bool.Decides.{nat_tests}
use Rattle.std.specs.Int.{IsInRange}
use Rattle.sql_lexer.specs.declared.scan.Class.{Class}
use Rattle.sql_lexer.specs.declared.scan.Class.TheVariants.{Blank, Letter, Digit, Quote, Single, Other}
use Rattle.sql_lexer.specs.Bytes.{is_blank, is_single, pair, class_of, joins_word, joins_number, is_word, is_digit}

pub digit_range : (b : ℕ) → class_of b ≡ Digit → IsInRange 48 57 b
unfolding class_of
digit_range b e = grind (arith, nat_tests)

pub digit_class : (b : ℕ) → IsInRange 48 57 b → class_of b ≡ Digit
unfolding class_of
digit_class b e = grind (arith, nat_tests)

pub letter_ascii : (b : ℕ) → class_of b ≡ Letter → b < 128
unfolding class_of
letter_ascii b e = grind (arith, nat_tests)

pub quote_cases : (b : ℕ) → class_of b ≡ Quote → (b ≡ 34) ⊎ (b ≡ 39)
unfolding class_of
quote_cases b e = grind (arith, nat_tests)

pub single_test : (b : ℕ) → class_of b ≡ Single → is_single b ≡ true
unfolding class_of
single_test b e = grind (arith, nat_tests)

pub single_class : (b : ℕ) → is_single b ≡ true → class_of b ≡ Single
unfolding class_of
single_class b e = grind (arith, nat_tests)

pub blank_test : (b : ℕ) → class_of b ≡ Blank → is_blank b ≡ true
unfolding class_of
blank_test b e = grind (arith, nat_tests)

pub blank_class : (b : ℕ) → is_blank b ≡ true → class_of b ≡ Blank
unfolding class_of
blank_class b e = grind (arith, nat_tests)

-- what a word and a number go on with is ASCII
joins_word_ascii : (b : ℕ) (class : Class) → class_of b ≡ class → joins_word class ≡ true → b < 128
joins_word_ascii b Letter e joins = letter_ascii b e
joins_word_ascii b Digit e joins = omega (arith, digit_range b e)
joins_word_ascii b Blank e joins = absurd (cc)
joins_word_ascii b Quote e joins = absurd (cc)
joins_word_ascii b Single e joins = absurd (cc)
joins_word_ascii b Other e joins = absurd (cc)

pub word_ascii : (b : ℕ) → is_word b ≡ true → b < 128
word_ascii b joins = joins_word_ascii b (class_of b) refl joins

joins_number_digit : (class : Class) → joins_number class ≡ true → class ≡ Digit
joins_number_digit Digit joins = refl
joins_number_digit Letter joins = absurd (cc)
joins_number_digit Blank joins = absurd (cc)
joins_number_digit Quote joins = absurd (cc)
joins_number_digit Single joins = absurd (cc)
joins_number_digit Other joins = absurd (cc)

pub digit_is : (b : ℕ) → is_digit b ≡ true → class_of b ≡ Digit
digit_is b joins = joins_number_digit (class_of b) joins

pub digit_joins : (b : ℕ) → class_of b ≡ Digit → is_digit b ≡ true
digit_joins b e = ap joins_number e

pub letter_joins : (b : ℕ) → class_of b ≡ Letter → is_word b ≡ true
letter_joins b e = ap joins_word e

pub digit_ascii : (b : ℕ) → is_digit b ≡ true → b < 128
digit_ascii b joins = omega (arith, digit_range b (digit_is b joins))

pub single_ascii : (b : ℕ) → class_of b ≡ Single → b < 128
unfolding class_of
single_ascii b e = grind (arith, nat_tests)

pub quote_ascii : (b : ℕ) → class_of b ≡ Quote → b < 128
unfolding class_of
quote_ascii b e = grind (arith, nat_tests)

pair_first : (b c : ℕ) (spelled : List ℕ) → pair b c ≡ Some spelled → (b ≡ 60) ⊎ ((b ≡ 33) ⊎ (b ≡ 62))
pair_first b c spelled e = grind (arith, nat_tests)

-- the first byte of a symbol of two bytes, which is no comment
pub pair_class : (b c : ℕ) (spelled : List ℕ) → pair b c ≡ Some spelled → ((class_of b ≡ Single) ⊎ (class_of b ≡ Other)) × ((eqb b 45 && eqb c 45) ≡ false)
unfolding class_of
pair_class b c spelled e =
    ⊎_elim (λ is. rw is (inl refl, refl)) (λ other. ⊎_elim (λ is. rw is (inr refl, refl)) (λ is. rw is (inl refl, refl)) other) (pair_first b c spelled e)

pub dash_class : class_of 45 ≡ Single
unfolding class_of
dash_class = refl
