-- What lines are spelled of, and how their numbers are read back.
use Rattle.std.proofs.Common.{◌≡◌, ◌∙◌, ◌⊎◌, inl, inr, ℕ, ◌+◌, ◌*◌, ◌/◌, ◌%◌, ◌^◌, ◌<◌, ◌≤◌, true, false, not, cond, nat_eq, nat_lt, List, [], ◌∷◌, ◌++◌, length, take, drop, refl, sym, ap, arith, append_assoc, length-append}
use Rattle.std.proofs.lemmas.Bool.{cases_lt}
use Rattle.std.proofs.lemmas.Bool.Decides.{eqb_tells, nat_tests}
use Rattle.std.proofs.lemmas.Fmt.{decimal_digit, decimal_step, decimal_is_IsNumeral}
use Rattle.std.proofs.lemmas.List.{append_cancel_right, take_at, drop_at}
use Rattle.std.proofs.lemmas.Str.Parse.{digit_from_value}
use Rattle.std.specs.Fmt.{decimal}
use Rattle.std.specs.Int.{IsInRange}
use Rattle.std.specs.List.{prefix_len}
use Rattle.std.specs.Prelude.{codes}
use Rattle.std.specs.Str.Parse.{AllDigits}
use Rattle.csv_tables.specs.Lines.{data_line, error_line, two_digits}
use Rattle.csv_tables.specs.declared.data_error.DataError.{DataError}
use Rattle.csv_tables.specs.declared.data_error.DataError.TheVariants.{Width, NotInteger, NotText, NoMemory}
use Rattle.refusal_notes.specs.Causes.{IsDataCause, not_blank}
use Rattle.refusal_notes.specs.declared.cause.Cause.TheVariants.{Data}

-- ---- numbers

pub two_digits-are : (code : ℕ) → code < 100 → two_digits code ≡ (48 + code / 10) ∷ (48 + code % 10) ∷ []
two_digits-are code small = by (cases_lt code 10)
  where
    by : (code < 10) ⊎ (10 ≤ code) → two_digits code ≡ (48 + code / 10) ∷ (48 + code % 10) ∷ []
    by (inl one) =
        let t : nat_lt code 10 ≡ true = grind (arith, nat_tests) in
        let q : 48 + code / 10 ≡ 48 = omega (arith, one) in
        let r : 48 + code % 10 ≡ 48 + code = omega (arith, one) in
        ap (λ b. cond b (codes "0") [] ++ decimal code) t
        ∙ ap (λ ds. codes "0" ++ ds) (decimal_digit code one)
        ∙ sym (ap (λ n. n ∷ (48 + code % 10) ∷ []) q ∙ ap (λ n. 48 ∷ n ∷ []) r)
    by (inr more) =
        let t : nat_lt code 10 ≡ false = grind (arith, nat_tests) in
        ap (λ b. cond b (codes "0") [] ++ decimal code) t
        ∙ decimal_step code more (omega (arith, small))
        ∙ ap (λ ds. ds ++ (48 + code % 10) ∷ []) (decimal_digit (code / 10) (omega (arith, small)))

digit-no_blank : (c : ℕ) → IsInRange 48 57 c → not_blank c ≡ true
digit-no_blank c within = let e : nat_eq c 32 ≡ false = grind (arith, eqb_tells c 32) in ap not e

digits-word : (ds rest : List ℕ) → AllDigits 10 ds → prefix_len not_blank (ds ++ 32 ∷ rest) ≡ length ds
digits-word [] rest all = refl
digits-word (c ∷ cs) rest all =
    let t : not_blank c ≡ true = digit-no_blank c (digit_from_value c all.0) in
    let more : prefix_len not_blank (cs ++ 32 ∷ rest) ≡ length cs = digits-word cs rest all.1 in
    ap (λ b. cond b (1 + prefix_len not_blank (cs ++ 32 ∷ rest)) 0) t ∙ omega (arith, more)

-- the place of a field
pub place-word : (place : List ℕ) (row field : ℕ) → row < 2 ^ 64 → place ≡ decimal row ++ codes " field " ++ decimal field →
    prefix_len not_blank place ≡ length (decimal row)
place-word place row field fits e =
    ap (prefix_len not_blank) (e ∙ joined) ∙ digits-word (decimal row) (codes "field " ++ decimal field) (decimal_is_IsNumeral row fits).0.1
  where
    joined : decimal row ++ codes " field " ++ decimal field ≡ decimal row ++ 32 ∷ (codes "field " ++ decimal field)
    joined = append_assoc (decimal row) (codes " field ") (decimal field)

pub place-row : (place : List ℕ) (row field : ℕ) → row < 2 ^ 64 → place ≡ decimal row ++ codes " field " ++ decimal field →
    take (prefix_len not_blank place) place ≡ decimal row
place-row place row field fits e =
    ap (λ n. take n place) (place-word place row field fits e)
    ∙ ap (take (length (decimal row))) (e ∙ append_assoc (decimal row) (codes " field ") (decimal field))
    ∙ take_at (decimal row) (codes " field " ++ decimal field) (length (decimal row)) refl

pub place-field : (place : List ℕ) (row field : ℕ) → row < 2 ^ 64 → place ≡ decimal row ++ codes " field " ++ decimal field →
    drop (prefix_len not_blank place + 7) place ≡ decimal field
place-field place row field fits e =
    let n : prefix_len not_blank place + 7 ≡ length (decimal row ++ codes " field ") =
    ap (λ k. k + 7) (place-word place row field fits e) ∙ sym (length-append (decimal row) (codes " field ")) in
    ap (λ k. drop k place) n
    ∙ ap (drop (length (decimal row ++ codes " field "))) e
    ∙ drop_at (decimal row ++ codes " field ") (decimal field) (length (decimal row ++ codes " field ")) refl

-- ---- lines without their line feed

pub at-line : (line : List ℕ) (code at : ℕ) → code < 100 → line ++ codes "\n" ≡ error_line code at →
    line ≡ codes "error E" ++ (48 + code / 10) ∷ (48 + code % 10) ∷ codes " at " ++ decimal at
at-line line code at small e =
    append_cancel_right line (codes "error E" ++ two_digits code ++ codes " at " ++ decimal at) (codes "\n") e
    ∙ ap (λ digits. codes "error E" ++ digits ++ codes " at " ++ decimal at) (two_digits-are code small)

-- the byte that stands at a place, as it is read
abbrev pub Reads : List ℕ → ℕ → ℕ → Type 0
Reads line at found = (before behind : List ℕ) (byte : ℕ) → length before ≡ at → line ≡ before ++ byte ∷ behind → found ≡ byte

-- the number that digits spell, as it is read
abbrev pub Counts : List ℕ → ℕ → Type 0
Counts digits found = (n : ℕ) → n < 2 ^ 64 → digits ≡ decimal n → found ≡ n

-- a digit, as it is read
abbrev pub Values : ℕ → ℕ → Type 0
Values byte found = (n : ℕ) → n < 10 → byte ≡ 48 + n → found ≡ n

pub at-code : (line : List ℕ) (code at tens ones t o : ℕ) → code < 100 → line ++ codes "\n" ≡ error_line code at →
    Reads line 7 tens → Reads line 8 ones → Values tens t → Values ones o → 10 * t + o ≡ code
at-code line code at tens ones t o small e seven eight first second =
    let l : line ≡ codes "error E" ++ (48 + code / 10) ∷ (48 + code % 10) ∷ codes " at " ++ decimal at = at-line line code at small e in
    let a : t ≡ code / 10 = first (code / 10) (omega (arith, small)) (seven (codes "error E") ((48 + code % 10) ∷ codes " at " ++ decimal at) (48 + code / 10) refl l) in
    let b : o ≡ code % 10 = second (code % 10) (omega arith) (eight (codes "error E" ++ (48 + code / 10) ∷ []) (codes " at " ++ decimal at) (48 + code % 10) refl l) in
    omega (arith, a, b)

pub at-place : (line : List ℕ) (code at found : ℕ) → code < 100 → at < 2 ^ 64 → line ++ codes "\n" ≡ error_line code at →
    Counts (drop 13 line) found → found ≡ at
at-place line code at found small fits e read = read at fits (ap (drop 13) (at-line line code at small e))

pub width-line : (line : List ℕ) (row : ℕ) → line ++ codes "\n" ≡ data_line (Width row) → line ≡ codes "error E42 record " ++ decimal row
width-line line row e = append_cancel_right line (codes "error E42 record " ++ decimal row) (codes "\n") e

pub integer-line : (line : List ℕ) (row field : ℕ) → line ++ codes "\n" ≡ data_line (NotInteger row field) →
    line ≡ codes "error E43 record " ++ decimal row ++ codes " field " ++ decimal field
integer-line line row field e =
    append_cancel_right line (codes "error E43 record " ++ decimal row ++ codes " field " ++ decimal field) (codes "\n") e

pub text-line : (line : List ℕ) (row field : ℕ) → line ++ codes "\n" ≡ data_line (NotText row field) →
    line ≡ codes "error E44 record " ++ decimal row ++ codes " field " ++ decimal field
text-line line row field e =
    append_cancel_right line (codes "error E44 record " ++ decimal row ++ codes " field " ++ decimal field) (codes "\n") e

-- a field's place, as it is read
abbrev pub CountsRow : List ℕ → ℕ → Type 0
CountsRow place found = (row field : ℕ) → row < 2 ^ 64 → place ≡ decimal row ++ codes " field " ++ decimal field → found ≡ row

abbrev pub CountsField : List ℕ → ℕ → Type 0
CountsField place found = (row field : ℕ) → row < 2 ^ 64 → field < 2 ^ 64 → place ≡ decimal row ++ codes " field " ++ decimal field → found ≡ field

width-mark : (line : List ℕ) (mark row : ℕ) → Reads line 8 mark → line ++ codes "\n" ≡ data_line (Width row) → mark ≡ 50
width-mark line mark row read e = read (codes "error E4") (codes " record " ++ decimal row) 50 refl (width-line line row e)

integer-mark : (line : List ℕ) (mark row field : ℕ) → Reads line 8 mark → line ++ codes "\n" ≡ data_line (NotInteger row field) → mark ≡ 51
integer-mark line mark row field read e =
    read (codes "error E4") (codes " record " ++ (decimal row ++ codes " field " ++ decimal field)) 51 refl (integer-line line row field e ∙ joined)
  where
    joined : codes "error E43 record " ++ decimal row ++ codes " field " ++ decimal field ≡ codes "error E43 record " ++ (decimal row ++ codes " field " ++ decimal field)
    joined = refl

text-mark : (line : List ℕ) (mark row field : ℕ) → Reads line 8 mark → line ++ codes "\n" ≡ data_line (NotText row field) → mark ≡ 52
text-mark line mark row field read e =
    read (codes "error E4") (codes " record " ++ (decimal row ++ codes " field " ++ decimal field)) 52 refl (text-line line row field e)

pub width-read : (line : List ℕ) (error : DataError) (mark found : ℕ) → IsDataCause error → line ++ codes "\n" ≡ data_line error →
    Reads line 8 mark → Counts (drop 17 line) found → mark ≡ 50 → Data (Width found) ≡ Data error
width-read line (Width row) mark found fits e read count is = ap (λ n. Data (Width n)) (count row fits (ap (drop 17) (width-line line row e)))
width-read line (NotInteger row field) mark found fits e read count is = absurd (omega (arith, is, integer-mark line mark row field read e))
width-read line (NotText row field) mark found fits e read count is = absurd (omega (arith, is, text-mark line mark row field read e))
width-read line NoMemory mark found fits e read count is = absurd fits

pub integer-read : (line : List ℕ) (error : DataError) (mark first second : ℕ) → IsDataCause error → line ++ codes "\n" ≡ data_line error →
    Reads line 8 mark → CountsRow (drop 17 line) first → CountsField (drop 17 line) second → mark ≡ 51 → Data (NotInteger first second) ≡ Data error
integer-read line (Width row) mark first second fits e read a b is = absurd (omega (arith, is, width-mark line mark row read e))
integer-read line (NotInteger row field) mark first second fits e read a b is =
    let p : drop 17 line ≡ decimal row ++ codes " field " ++ decimal field = ap (drop 17) (integer-line line row field e) in
    ap (λ n. Data (NotInteger n second)) (a row field fits.0 p) ∙ ap (λ n. Data (NotInteger row n)) (b row field fits.0 fits.1 p)
integer-read line (NotText row field) mark first second fits e read a b is = absurd (omega (arith, is, text-mark line mark row field read e))
integer-read line NoMemory mark first second fits e read a b is = absurd fits

pub text-read : (line : List ℕ) (error : DataError) (mark first second : ℕ) → IsDataCause error → line ++ codes "\n" ≡ data_line error →
    Reads line 8 mark → CountsRow (drop 17 line) first → CountsField (drop 17 line) second → (mark ≡ 50 → ⊥) → (mark ≡ 51 → ⊥) →
    Data (NotText first second) ≡ Data error
text-read line (Width row) mark first second fits e read a b two three = absurd (two (width-mark line mark row read e))
text-read line (NotInteger row field) mark first second fits e read a b two three = absurd (three (integer-mark line mark row field read e))
text-read line (NotText row field) mark first second fits e read a b two three =
    let p : drop 17 line ≡ decimal row ++ codes " field " ++ decimal field = ap (drop 17) (text-line line row field e) in
    ap (λ n. Data (NotText n second)) (a row field fits.0 p) ∙ ap (λ n. Data (NotText row n)) (b row field fits.0 fits.1 p)
text-read line NoMemory mark first second fits e read a b two three = absurd fits
