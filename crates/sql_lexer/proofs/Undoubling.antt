-- Each pair of quotes between two quotes as one.
use Rattle.std.proofs.Common.{◌≡◌, ◌≢◌, ◌≤◌, ◌⊎◌, inl, inr, pos, ℕ, ◌+◌, ◌-◌, ◌<◌, true, false, List, [], ◌∷◌, ◌++◌, length, take, drop, ◌^◌, Option, Some, None, refl, sym, ap, subst, ◌∙◌, ⊎_elim, arith, eq-eqb}
use Rattle.std.specs.Prelude.{nat_eq}
use Rattle.std.specs.List.{list_any}
use Rattle.std.specs.Str.{IsUtf8}
use Rattle.std.proofs.lemmas.Bool.{eqb-true, cases_Bool}
use Rattle.std.proofs.lemmas.Bool.Decides.{nat_tests}
use Rattle.std.proofs.lemmas.List.{append-nil, length-take-le}
use Rattle.std.proofs.Math.Seq.{take-append_seam}
use Rattle.sql_lexer.specs.declared.scan.Class.TheVariants.{Quote}
use Rattle.sql_lexer.specs.Bytes.{class_of, doubled}
use Rattle.sql_lexer.specs.Reading.{Unquoted, unquoted, one, closed, kind_of}
use Rattle.sql_lexer.specs.Spelled.{IsHeld, IsInRange, number_by, spelled_by, width}
use Rattle.sql_lexer.specs.Undoubled.{undoubled}
use Rattle.sql_lexer.proofs.BetweenQuotes.{doubled_quote, doubled_other, Says, says, len_of}
use Rattle.sql_lexer.proofs.Classes.{quote_cases, quote_ascii}
use Rattle.sql_lexer.proofs.InsideUtf8.{found_utf8}

pub undoubled_nil : (quote : ℕ) → undoubled quote [] ≡ []
unfolding undoubled
undoubled_nil quote = refl

pub undoubled_other : (quote b : ℕ) (rest : List ℕ) → nat_eq b quote ≡ false → undoubled quote (b ∷ rest) ≡ b ∷ undoubled quote rest
unfolding undoubled
undoubled_other quote b [] other = refl
undoubled_other quote b (c ∷ rest) other = rw other refl

pub undoubled_pair : (quote b c : ℕ) (rest : List ℕ) → nat_eq b quote ≡ true → undoubled quote (b ∷ c ∷ rest) ≡ b ∷ undoubled quote rest
unfolding undoubled
undoubled_pair quote b c rest is = rw is refl

undoubled_doubled : (quote : ℕ) (inside : List ℕ) → undoubled quote (doubled quote inside) ≡ inside
undoubled_doubled quote [] = undoubled_nil quote
undoubled_doubled quote (b ∷ inside) =
    ⊎_elim (λ is. rw (eqb-true b quote is, doubled_quote quote inside, undoubled_pair quote quote quote (doubled quote inside) (eq-eqb quote quote refl), undoubled_doubled quote inside) refl)
    (λ other. rw (doubled_other quote b inside other, undoubled_other quote b (doubled quote inside) other, undoubled_doubled quote inside) refl)
    (cases_Bool (nat_eq b quote))

-- what is found behind an opening quote is what stands before the quote that closes, with each pair of quotes as one
pub found_inside : (quote : ℕ) (rest : List ℕ) (found : Unquoted) → unquoted quote rest ≡ Some found → undoubled quote (take (found.len - 1) rest) ≡ found.inside
found_inside quote rest found is =
    let s : Says quote rest (Some found) = subst (Says quote rest) is (says quote rest) in
    let n : found.len - 1 ≡ length (doubled quote found.inside) = omega (arith, s.3) in
    ap (λ k. undoubled quote (take k rest)) n
    ∙ ap (λ text. undoubled quote (take (length (doubled quote found.inside)) text)) s.1
    ∙ ap (undoubled quote) (take-append_seam (doubled quote found.inside) (quote ∷ s.0))
    ∙ undoubled_doubled quote found.inside

-- where no quote stands, all is as it is
pub none_doubled : (quote : ℕ) (inside : List ℕ) → list_any (λ b. nat_eq b quote) inside ≡ false → undoubled quote inside ≡ inside
none_doubled quote [] none = undoubled_nil quote
none_doubled quote (b ∷ inside) none =
    ⊎_elim (λ is. let both : true ≡ false = rw is at none in absurd cc)
    (λ other. undoubled_other quote b inside other ∙ ap (λ r. b ∷ r) (none_doubled quote inside (rw other at none)))
    (cases_Bool (nat_eq b quote))

-- behind a last byte
behind_last : (quote b : ℕ) → undoubled quote (b ∷ []) ≡ b ∷ undoubled quote []
unfolding undoubled
behind_last quote b = refl

pub behind_none : (quote b : ℕ) (rest : List ℕ) → length rest < 1 → undoubled quote (b ∷ rest) ≡ b ∷ undoubled quote rest
behind_none quote b [] none = behind_last quote b
behind_none quote b (c ∷ rest) none = absurd (omega (arith, none))

pub behind_pair : (quote b : ℕ) (rest : List ℕ) → b ≡ quote → 1 ≤ length rest → undoubled quote (b ∷ rest) ≡ b ∷ undoubled quote (drop 1 rest)
behind_pair quote b [] is some = absurd (omega (arith, some))
behind_pair quote b (c ∷ rest) is some = undoubled_pair quote b c rest (eq-eqb b quote is)

pub behind_other : (quote b : ℕ) (rest : List ℕ) → b ≢ quote → undoubled quote (b ∷ rest) ≡ b ∷ undoubled quote rest
behind_other quote b rest other = undoubled_other quote b rest (grind (arith, nat_tests))

-- once nothing is left
pub at_last : (quote : ℕ) (inside rest whole : List ℕ) → length rest < 1 → inside ++ undoubled quote rest ≡ whole → inside ≡ whole
at_last quote inside [] whole none e = sym (append-nil inside) ∙ ap (λ r. inside ++ r) (sym (undoubled_nil quote)) ∙ e
at_last quote inside (b ∷ rest) whole none e = absurd (omega (arith, none))

-- what a quote tells of the token that begins with it
record IsBetween (quote : ℕ) (text : List ℕ) : Type 0 where
  spells : spelled_by (kind_of quote) text ≡ undoubled quote text
  takes : width (kind_of quote) text ≡ length text + 2
  counts : number_by (kind_of quote) text ≡ pos 0
  ranges : IsInRange (kind_of quote) text

by_quote : (quote : ℕ) (text : List ℕ) → (quote ≡ 34) ⊎ (quote ≡ 39) → IsBetween quote text
by_quote quote text (inl is) = rw is (record { spells = refl; takes = refl; counts = refl; ranges = tt })
by_quote quote text (inr is) = rw is (record { spells = refl; takes = refl; counts = refl; ranges = tt })

some_len : (len : ℕ) (found : Option Unquoted) → Some len ≡ len_of found → (f : Unquoted) × (found ≡ Some f) × (f.len ≡ len)
some_len len None e = absurd cc
some_len len (Some f) e = (f, refl, cc)

-- a quoted token at the front, whose text stands up to before the quote that closes
module _ (quote len : ℕ) (rest : List ℕ) (class : class_of quote ≡ Quote) (is : Some len ≡ len_of (unquoted quote rest)) where
  abbrev inside : List ℕ
  inside = take (len - 1) rest

  between : IsBetween quote inside
  between = by_quote quote inside (quote_cases quote class)

  spells : (f : Unquoted) → unquoted quote rest ≡ Some f → f.len ≡ len → spelled_by (kind_of quote) inside ≡ f.inside
  spells f e same = between.spells ∙ ap (λ n. undoubled quote (take (n - 1) rest)) (sym same) ∙ found_inside quote rest f e

  width_is : 0 < len → len ≤ length rest → width (kind_of quote) inside ≡ 1 + len
  width_is some within = between.takes ∙ omega (arith, length-take-le (len - 1) rest (omega (arith, within)), some)

  pub quoted_held : (at : ℕ) → 0 < len → len ≤ length rest → at + length rest + 1 < 2 ^ 64 → IsUtf8 (quote ∷ rest) → IsHeld (kind_of quote) at inside
  quoted_held at some within fits utf8 =
      let f = some_len len (unquoted quote rest) is in
      record {
        utf8 = subst IsUtf8 (sym (spells f.0 f.1 f.2)) (found_utf8 quote rest f.0 (quote_ascii quote class) utf8 f.1);
        fits = omega (arith, width_is some within, within, fits);
        range = between.ranges;
      }

  pub quoted_closed : (at : ℕ) → 0 < len → len ≤ length rest
      → closed at quote (unquoted quote rest)
      ≡ one (kind_of quote) at (at + width (kind_of quote) inside) (spelled_by (kind_of quote) inside) (number_by (kind_of quote) inside)
  quoted_closed at some within =
      let f = some_len len (unquoted quote rest) is in
      ap (closed at quote) f.1
      ∙ ap (λ n. one (kind_of quote) at (at + (1 + n)) f.0.inside (pos 0)) f.2
      ∙ ap (λ n. one (kind_of quote) at (at + n) f.0.inside (pos 0)) (sym (width_is some within))
      ∙ ap (λ text. one (kind_of quote) at (at + width (kind_of quote) inside) text (pos 0)) (sym (spells f.0 f.1 f.2))
      ∙ ap (one (kind_of quote) at (at + width (kind_of quote) inside) (spelled_by (kind_of quote) inside)) (sym between.counts)
