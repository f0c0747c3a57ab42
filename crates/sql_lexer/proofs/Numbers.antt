-- Digits, and the number that `parse` reads from them.
use Rattle.std.proofs.Common.{◌≡◌, ℕ, ℤ, pos, ◌+◌, ◌<◌, ◌^◌, true, false, ltb, List, [], ◌∷◌, length, take, get_or, Some, None, Result, Ok, Err, refl, sym, ap, ◌∙◌, ⊎_elim, arith, w64}
use Rattle.std.specs.List.{list_all, prefix_len}
use Rattle.std.specs.Str.Parse.{digits_value, ParsesSigned}
use Rattle.std.proofs.lemmas.Bool.{lt-ltb, ltb-true, false_from_ne_true, cond-true, cond-false, cases_Bool, and_from, and_parts}
use Rattle.std.proofs.lemmas.List.Folds.{length-prefix_len}
use Rattle.std.proofs.lemmas.Result.{OkIff-at_ok, OkIff-at_err}
use Rattle.std.proofs.lemmas.Str.Parse.{IsDigitsTest, IsNumeralModel, numerals_by_value, parse_signed_digits}
use Rattle.sql_lexer.specs.declared.lex_error.LexError.TheVariants.{NumberRange}
use Rattle.sql_lexer.specs.declared.token.TokenKind.TheVariants.{Number}
use Rattle.sql_lexer.specs.declared.scan.Class.TheVariants.{Digit}
use Rattle.sql_lexer.specs.Bytes.{class_of, is_digit}
use Rattle.sql_lexer.specs.Reading.{Refused, one, number}
use Rattle.sql_lexer.specs.Spelled.{value_in_range}
use Rattle.sql_lexer.proofs.Classes.{digit_range, digit_class, digit_is, digit_joins}
use Rattle.sql_lexer.proofs.Fronts.{front_more}

tells : IsDigitsTest (λ digits. list_all is_digit digits ≡ true)
tells = record {
  empty = refl;
  parts = λ c cs all. (digit_range c (digit_is c (and_parts (is_digit c) (list_all is_digit cs) all).0), (and_parts (is_digit c) (list_all is_digit cs) all).1);
  more = λ c cs low all. and_from (is_digit c) (list_all is_digit cs) (digit_joins c (digit_class c low)) all;
}

pub numerals : IsNumeralModel (λ digits. list_all is_digit digits ≡ true) (digits_value 10)
numerals = numerals_by_value _ tells

-- what `parse` gives of digits is their value, if it is below 2^63
module _ {E : Type 0} (bytes digits : List ℕ) (r : Result ℤ E) (is : bytes ≡ digits) (all : list_all is_digit digits ≡ true) (parses : ParsesSigned w64 10 bytes r) where
  pub in_range : (n : ℤ) → r ≡ Ok n → Some n ≡ value_in_range digits
  in_range n e =
      let found = OkIff-at_ok r _ _ n (parse_signed_digits numerals w64 bytes r parses (rw is all)) e in
      rw (← is) (rw found.1 (sym (cond-true (ltb (digits_value 10 bytes) (2 ^ 63)) _ _ (lt-ltb _ _ found.0.1))))

  pub out_of_range : (f : E) → 0 < length digits → r ≡ Err f → None ≡ value_in_range digits
  out_of_range f some e =
      let not = OkIff-at_err r _ _ f (parse_signed_digits numerals w64 bytes r parses (rw is all)) e in
      rw (← is) (sym (cond-false (ltb (digits_value 10 bytes) (2 ^ 63)) _ _ (false_from_ne_true _ (λ small. not (rw is some, ltb-true _ _ small)))))

-- digits whose value is given are below the limit
pub below : (digits : List ℕ) (n : ℤ) → value_in_range digits ≡ Some n → digits_value 10 digits < 2 ^ 63
below digits n e =
    ⊎_elim (λ small. ltb-true _ _ small)
    (λ large. let both : None ≡ Some n = sym (cond-false (ltb (digits_value 10 digits) (2 ^ 63)) _ _ large) ∙ e in absurd cc)
    (cases_Bool (ltb (digits_value 10 digits) (2 ^ 63)))

-- and others aren't
above : (digits : List ℕ) → value_in_range digits ≡ None → ltb (digits_value 10 digits) (2 ^ 63) ≡ false
above digits e =
    ⊎_elim (λ small. let both : Some (pos (digits_value 10 digits)) ≡ None = sym (cond-true (ltb (digits_value 10 digits) (2 ^ 63)) _ _ small) ∙ e in absurd cc)
    (λ large. large)
    (cases_Bool (ltb (digits_value 10 digits) (2 ^ 63)))

pub parsed : (at : ℕ) (text : List ℕ) (n : ℤ) → value_in_range (take (prefix_len is_digit text) text) ≡ Some n
    → number at text
    ≡ one Number at (at + length (take (prefix_len is_digit text) text)) (take (prefix_len is_digit text) text) (pos (digits_value 10 (take (prefix_len is_digit text) text)))
unfolding number
parsed at text n e =
    let digits = take (prefix_len is_digit text) text in
    cond-true (ltb (digits_value 10 digits) (2 ^ 63)) _ _ (lt-ltb _ _ (below digits n e))
    ∙ ap (λ len. one Number at (at + len) digits (pos (digits_value 10 digits))) (sym (length-prefix_len is_digit text))

pub too_large : (at : ℕ) (text : List ℕ) → value_in_range (take (prefix_len is_digit text) text) ≡ None → number at text ≡ Refused (NumberRange at)
unfolding number
too_large at text e =
    let digits = take (prefix_len is_digit text) text in
    cond-false (ltb (digits_value 10 digits) (2 ^ 63)) _ _ (above digits e)

-- behind a first digit there is one at least
pub digits_some : (text : List ℕ) → 0 < length text → class_of (get_or text 0 0) ≡ Digit → 0 < length (take (prefix_len is_digit text) text)
digits_some [] some e = some
digits_some (b ∷ rest) some e = rw (front_more is_digit b rest (digit_joins b e)) (omega arith)
