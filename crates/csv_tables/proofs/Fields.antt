-- What the tests of a field mean: std's parse reads exactly the integers, and text is what std reads as UTF-8.
use Rattle.std.proofs.Common.{◌≡◌, ◌↔◌, ℕ, ℤ, pos, negsuc, Bool, true, false, cond, List, [], ◌∷◌, length, drop, Option, Some, None, Result, Ok, Err, refl, sym, ap, ◌∙◌, arith, eqb, ◌^◌}
use Rattle.std.proofs.lemmas.Bool.Decides.{eqb_tells, Decides-and, Decides-ltb, Decides-like}
use Rattle.std.proofs.lemmas.Fmt.{IsAscii-from_digits}
use Rattle.std.proofs.lemmas.Str.{IsUtf8-from_ascii, IsUtf8-from_is_utf8, is_utf8-from_IsUtf8, IsUtf8-nil}
use Rattle.std.proofs.lemmas.Str.Ascii.{IsAscii-cons}
use Rattle.std.proofs.lemmas.Str.Parse.{IsNumeralModel, numerals_by_value, tells_all_ascii_digits}
use Rattle.std.specs.Bool.{Decides}
use Rattle.std.specs.Int.{w64}
use Rattle.std.specs.Option.{IsSome, IfSome}
use Rattle.std.specs.Prelude.{FitsSigned}
use Rattle.std.specs.Result.{result_ok}
use Rattle.std.specs.Str.{IsAscii, IsUtf8, all_ascii_digits, bytes_eq, is_utf8}
use Rattle.std.specs.Str.Parse.{AllDigits, digits_value, IsNumeral, ParsesSigned, signed_digits_value, without_leading_sign}
use Rattle.perm_values.specs.declared.kind.Kind.{Kind}
use Rattle.perm_values.specs.declared.kind.Kind.TheVariants as kind
use Rattle.perm_values.specs.declared.value.Value.TheVariants.{Text}
use Rattle.csv_tables.specs.Loading.{field_breaks, field_value, first_of, fits_64_bits, integer_of, is_integer, is_numeral}
use Rattle.csv_tables.specs.declared.data_error.DataError.TheVariants.{NotText}

-- ---- tests and facts

false_from : (b : Bool) → (b ≡ true → ⊥) → b ≡ false
false_from true h = absurd (h refl)
false_from false h = refl

digit_texts : IsNumeralModel (λ digits. all_ascii_digits digits ≡ true) (digits_value 10)
digit_texts = numerals_by_value _ tells_all_ascii_digits

is_numeral-Decides : (digits : List ℕ) → Decides (is_numeral digits) (IsNumeral 10 digits)
is_numeral-Decides digits = Decides-and _ _ (Decides-ltb 0 (length digits)) (digit_texts.to digits, digit_texts.from digits)

fits_64_bits-Decides : (z : ℤ) → Decides (fits_64_bits z) (FitsSigned w64 z)
fits_64_bits-Decides (pos n) = Decides-like _ (λ h. record { sfits = h }) (λ f. f.sfits) (Decides-ltb n (2 ^ 63))
fits_64_bits-Decides (negsuc n) = Decides-like _ (λ h. record { sfits = h }) (λ f. f.sfits) (Decides-ltb n (2 ^ 63))

pub is_integer-Decides : (field : List ℕ) → Decides (is_integer field) (IsNumeral 10 (without_leading_sign field) × FitsSigned w64 (signed_digits_value 10 field))
is_integer-Decides field = Decides-and _ _ (is_numeral-Decides (without_leading_sign field)) (fits_64_bits-Decides (signed_digits_value 10 field))

-- ---- integers

pub integer-parsed : {E : Type 0} (field : List ℕ) (r : Result ℤ E) → ParsesSigned w64 10 field r → result_ok r ≡ integer_of field
integer-parsed field (Ok z) parsed = rw ((is_integer-Decides field).1 parsed.0) (ap Some parsed.1)
integer-parsed field (Err e) refused = rw (false_from (is_integer field) (λ yes. refused ((is_integer-Decides field).0 yes))) refl

sign-ascii : (b : ℕ) (rest : List ℕ) (minus plus : Bool) → minus ≡ eqb b 45 → plus ≡ eqb b 43 →
    AllDigits 10 (cond minus (drop 1 (b ∷ rest)) (drop (cond plus 1 0) (b ∷ rest))) → IsAscii (b ∷ rest)
sign-ascii b rest true plus m p digits = IsAscii-cons b rest (let e : eqb b 45 ≡ true = sym m in grind (arith, eqb_tells b 45)) (IsAscii-from_digits rest digits)
sign-ascii b rest false true m p digits = IsAscii-cons b rest (let e : eqb b 43 ≡ true = sym p in grind (arith, eqb_tells b 43)) (IsAscii-from_digits rest digits)
sign-ascii b rest false false m p digits = IsAscii-from_digits (b ∷ rest) digits

integer-ascii : (field : List ℕ) → IsNumeral 10 (without_leading_sign field) → IsUtf8 field
integer-ascii [] numeral = IsUtf8-nil
integer-ascii (b ∷ rest) numeral = IsUtf8-from_ascii (b ∷ rest) (sign-ascii b rest _ _ refl refl numeral.1)

pub integer-no_text : (field : List ℕ) → ¬ (IsUtf8 field) → None ≡ integer_of field
integer-no_text field binary = rw (false_from (is_integer field) (λ yes. binary (integer-ascii field ((is_integer-Decides field).0 yes).0))) refl

-- ---- texts

pub is_utf8-some : (field : List ℕ) (found : Option (List ℕ)) (text : List ℕ) → IsSome found ↔ IsUtf8 field → found ≡ Some text → is_utf8 field ≡ true
is_utf8-some field found text valid e = is_utf8-from_IsUtf8 field (valid.0 (rw e refl))

pub is_utf8-none : (field : List ℕ) (found : Option (List ℕ)) → IsSome found ↔ IsUtf8 field → found ≡ None → is_utf8 field ≡ false
is_utf8-none field found valid e = false_from (is_utf8 field) (λ yes. let some = rw e at (valid.1 (IsUtf8-from_is_utf8 field yes)) in cc some)

pub text-spelled : (null_field : List ℕ) (row place : ℕ) (k : Kind) (field text : List ℕ) (found : Option (List ℕ)) (equal : Bool) → k ≡ kind.Text → equal ≡ false → equal ≡ bytes_eq field null_field →
    IsSome found ↔ IsUtf8 field → IfSome found (λ t. t ≡ field) → found ≡ Some text → (field_breaks null_field row place k field ≡ []) × (Text text ≡ field_value null_field k field)
text-spelled null_field row place k field text found equal e unequal tested valid value is =
    let utf8 : is_utf8 field ≡ true = is_utf8-some field found text valid is in
    let same : text ≡ field = rw is at value in
    let none : bytes_eq field null_field ≡ false = sym tested ∙ unequal in
    rw (e, none, utf8, same) (refl, refl)

pub text-broken : (null_field : List ℕ) (row place : ℕ) (k : Kind) (field : List ℕ) (found : Option (List ℕ)) (equal : Bool) → k ≡ kind.Text → equal ≡ false → equal ≡ bytes_eq field null_field →
    IsSome found ↔ IsUtf8 field → found ≡ None → first_of (field_breaks null_field row place k field) ≡ Some (NotText row place)
text-broken null_field row place k field found equal e unequal tested valid is =
    let binary : is_utf8 field ≡ false = is_utf8-none field found valid is in
    let none : bytes_eq field null_field ≡ false = sym tested ∙ unequal in
    rw (e, none, binary) refl

-- ---- the rule that a field of a text column breaks, by its test alone

pub text-whole : (null_field : List ℕ) (row place : ℕ) (k : Kind) (field : List ℕ) (equal : Bool) → k ≡ kind.Text → equal ≡ false → equal ≡ bytes_eq field null_field →
    IsUtf8 field → None ≡ first_of (field_breaks null_field row place k field)
text-whole null_field row place k field equal e unequal tested valid =
    let utf8 : is_utf8 field ≡ true = is_utf8-from_IsUtf8 field valid in
    let none : bytes_eq field null_field ≡ false = sym tested ∙ unequal in
    rw (e, none, utf8) refl

pub text-faulty : (null_field : List ℕ) (row place : ℕ) (k : Kind) (field : List ℕ) (equal : Bool) → k ≡ kind.Text → equal ≡ false → equal ≡ bytes_eq field null_field →
    ¬ (IsUtf8 field) → Some (NotText row place) ≡ first_of (field_breaks null_field row place k field)
text-faulty null_field row place k field equal e unequal tested faulty =
    let binary : is_utf8 field ≡ false = false_from (is_utf8 field) (λ yes. faulty (IsUtf8-from_is_utf8 field yes)) in
    let none : bytes_eq field null_field ≡ false = sym tested ∙ unequal in
    rw (e, none, binary) refl
