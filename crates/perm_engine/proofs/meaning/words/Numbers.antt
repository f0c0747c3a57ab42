-- A number in decimal, and the numbers from 1 to 100,000.
use Rattle.std.proofs.Common.{◌≡◌, ◌∙◌, ◌<◌, ◌≤◌, ◌^◌, ℕ, Bool, true, false, cond, List, [], ◌∷◌, refl, sym, ap, subst, arith, drop}
use Rattle.std.proofs.lemmas.Bool.{ne_eqb}
use Rattle.std.proofs.lemmas.Fmt.{decimal_is_IsNumeral}
use Rattle.std.proofs.lemmas.Str.Parse.{digit_from_value}
use Rattle.std.specs.Fmt.{decimal}
use Rattle.std.specs.Str.Parse.{IsNumeral, digits_value, without_leading_plus}
use Rattle.clap.specs.ValueTests.{is_unsigned_in}
use Rattle.clap.specs.declared.builder.value_parser.ValueParser.TheVariants.{Unsigned}
use Rattle.clap.proofs.ValueTestLemmas.{Accepts-accepts, accepts-Accepts}
use Rattle.perm_engine.specs.meaning.words.Requests.{is_dashed, numbered}
use Rattle.perm_engine.specs.declared.meaning.words.wanted.Wanted.TheVariants.{Script, Generated, Misworded}

no_plus : (ds : List ℕ) → IsNumeral 10 ds → without_leading_plus ds ≡ ds
no_plus [] h = refl
no_plus (d ∷ ds) h = ap (λ (b : Bool). drop (cond b 1 0) (d ∷ ds)) (ne_eqb d 43 (λ e. omega (arith, digit_from_value d h.1.0)))

no_dash : (ds : List ℕ) → IsNumeral 10 ds → is_dashed ds ≡ false
no_dash [] h = refl
no_dash (d ∷ ds) h = ne_eqb d 45 (λ e. omega (arith, digit_from_value d h.1.0))

small : (rows : ℕ) → rows ≤ 100000 → rows < 2 ^ 64
small rows most = omega (arith, most)

pub decimal_undashed : (rows : ℕ) → rows ≤ 100000 → is_dashed (decimal rows) ≡ false
decimal_undashed rows most = no_dash (decimal rows) (decimal_is_IsNumeral rows (small rows most)).0

value : (rows : ℕ) → rows ≤ 100000 → digits_value 10 (without_leading_plus (decimal rows)) ≡ rows
value rows most =
    let numeral = decimal_is_IsNumeral rows (small rows most) in
    ap (digits_value 10) (no_plus (decimal rows) numeral.0) ∙ numeral.1

pub decimal_taken : (rows : ℕ) → 1 ≤ rows → rows ≤ 100000 → is_unsigned_in 1 100000 (decimal rows) ≡ true
decimal_taken rows least most =
    let numeral = decimal_is_IsNumeral rows (small rows most) in
    let is = value rows most in
    Accepts-accepts false (Unsigned 1 100000) (decimal rows)
    (subst (IsNumeral 10) (sym (no_plus (decimal rows) numeral.0)) numeral.0, omega (arith, is, most), omega (arith, is, least), omega (arith, is, most))

pub decimal_numbered : (rows : ℕ) → 1 ≤ rows → rows ≤ 100000 → numbered (decimal rows) ≡ Generated rows
decimal_numbered rows least most =
    ap (λ (b : Bool). cond b (Generated (digits_value 10 (without_leading_plus (decimal rows)))) Misworded) (decimal_taken rows least most)
    ∙ ap Generated (value rows most)

abbrev pub IsWithin : ℕ → Type 0
IsWithin rows = (1 ≤ rows) × (rows ≤ 100000)

pub same_rows : (a b : ℕ) → Generated a ≡ Generated b → a ≡ b
same_rows a b e = cc

pub script≢generated : (name : List ℕ) (rows : ℕ) → Script name ≡ Generated rows → ⊥
script≢generated name rows e = cc

pub misworded≢generated : (rows : ℕ) → Misworded ≡ Generated rows → ⊥
misworded≢generated rows e = cc

pub numbered_within : (text : List ℕ) (rows : ℕ) → numbered text ≡ Generated rows → IsWithin rows
numbered_within text rows = go (is_unsigned_in 1 100000 text) refl where
  number : ℕ
  number = digits_value 10 (without_leading_plus text)

  go : (b : Bool) → is_unsigned_in 1 100000 text ≡ b → cond b (Generated number) Misworded ≡ Generated rows → IsWithin rows
  go true taken e = let h = accepts-Accepts false (Unsigned 1 100000) text taken in subst IsWithin (same_rows number rows e) (h.2, h.3)
  go false taken e = absurd (misworded≢generated rows e)

-- ---- the number that a text names

pub number_taken : (text : List ℕ) (rows : ℕ) → (IsNumeral 10 (without_leading_plus text) × (digits_value 10 (without_leading_plus text) < 2 ^ 64))
    × (rows ≡ digits_value 10 (without_leading_plus text)) → 1 ≤ rows → rows ≤ 100000 → Generated rows ≡ numbered text
number_taken text rows read least most =
    let fits = Accepts-accepts false (Unsigned 1 100000) text
    (read.0.0, read.0.1, omega (arith, read.1, least), omega (arith, read.1, most)) in
    ap Generated read.1 ∙ ap (λ (b : Bool). cond b (Generated (digits_value 10 (without_leading_plus text))) Misworded) (sym fits)

pub number_refused : (text : List ℕ) → (IsNumeral 10 (without_leading_plus text) × (digits_value 10 (without_leading_plus text) < 2 ^ 64) → ⊥) → Misworded ≡ numbered text
number_refused text none = go (is_unsigned_in 1 100000 text) refl where
  go : (b : Bool) → is_unsigned_in 1 100000 text ≡ b → Misworded ≡ cond b (Generated (digits_value 10 (without_leading_plus text))) Misworded
  go true taken = let h = accepts-Accepts false (Unsigned 1 100000) text taken in absurd (none (h.0, h.1))
  go false taken = refl
