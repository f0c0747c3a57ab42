-- The tokens of a generated script can be written, and its text is UTF-8.
use Rattle.std.proofs.Common.{◌≡◌, ◌∙◌, ◌<◌, ◌^◌, ◌+◌, ◌%◌, ◌&&◌, ◌||◌, ℕ, ℤ, pos, negsuc, zero, suc, Bool, true, false, List, [], ◌∷◌, ◌++◌, refl, sym, subst, arith}
use Rattle.std.specs.Prelude.{codes, nat_lt}
use Rattle.std.specs.Fmt.{decimal}
use Rattle.std.specs.List.{AllByRecursion, flat_map, range_with_len}
use Rattle.std.specs.Str.{IsAscii, IsUtf8, bytes_eq}
use Rattle.std.proofs.lemmas.Bool.{ltb-true, and_parts}
use Rattle.std.proofs.lemmas.Fmt.{IsAscii-decimal}
use Rattle.std.proofs.lemmas.Str.{IsAscii-append, IsUtf8-from_ascii}
use Rattle.std.proofs.lemmas.Slice.Eq.{bytes_eq-Decides}
use Rattle.sql_lexer.specs.Bytes.{class_of}
use Rattle.sql_lexer.specs.Printing.{CanSpell}
use Rattle.sql_lexer.specs.declared.token.TokenKind.{TokenKind}
use Rattle.sql_lexer.specs.declared.token.TokenKind.TheVariants.{Word, Quoted, Number, Text, Symbol}
use Rattle.sql_tree.specs.grammar.Grammar.{SqlRule}
use Rattle.tree_texts.specs.plans.Plans.{Plan, Told, a_word, a_choice, a_token, before, behind, first, second, front_first, front_second, absent, present, no_more, one_more, one_last, at_start, as_symbol}
use Rattle.tree_texts.specs.plans.Plans as plans
use Rattle.tree_texts.proofs.Standing.{all_ascii}
use Rattle.perm_engine.specs.meaning.generation.Generated.{big_row, big_rows, comma, generated, queries, small_rows, tables}
use Rattle.perm_engine.proofs.meaning.generation.Parts.{more_rows}
use Rattle.perm_engine.proofs.meaning.generation.Rows.{line}
use Rattle.perm_engine.proofs.meaning.generation.ScriptPlan.{big_at, first_table, second_table, others, script}

-- ---- ASCII

row_ascii : (number : ℕ) → number < 2 ^ 64 → IsAscii (big_row number)
row_ascii number fits =
    IsAscii-append (codes "( " ++ decimal number ++ codes " , " ++ decimal (number % 10) ++ codes " , 't" ++ decimal (number % 100)) (codes "' ) ")
    (IsAscii-append (codes "( " ++ decimal number ++ codes " , " ++ decimal (number % 10) ++ codes " , 't") (decimal (number % 100))
    (IsAscii-append (codes "( " ++ decimal number ++ codes " , " ++ decimal (number % 10)) (codes " , 't")
    (IsAscii-append (codes "( " ++ decimal number ++ codes " , ") (decimal (number % 10))
    (IsAscii-append (codes "( " ++ decimal number) (codes " , ")
    (IsAscii-append (codes "( ") (decimal number) (all_ascii (codes "( ") refl) (IsAscii-decimal number fits))
    (all_ascii (codes " , ") refl))
    (IsAscii-decimal (number % 10) (omega arith)))
    (all_ascii (codes " , 't") refl))
    (IsAscii-decimal (number % 100) (omega arith)))
    (all_ascii (codes "' ) ") refl)

comma_ascii : (place : ℕ) → IsAscii (comma place)
comma_ascii zero = all_ascii [] refl
comma_ascii (suc place) = all_ascii (codes ", ") refl

rows_ascii : (place count : ℕ) → place + count < 2 ^ 63 → IsAscii (flat_map line (range_with_len place count))
rows_ascii place zero fits = all_ascii [] refl
rows_ascii place (suc count) fits =
    IsAscii-append (line place) (flat_map line (range_with_len (place + 1) count))
    (IsAscii-append (comma place) (big_row (place + 1)) (comma_ascii place) (row_ascii (place + 1) (omega (arith, fits)))) (rows_ascii (place + 1) count (omega (arith, fits)))

pub generated_utf8 : (rows : ℕ) → rows < 2 ^ 63 → IsUtf8 (generated rows)
unfolding generated
generated_utf8 rows fits =
    IsUtf8-from_ascii (generated rows)
    (IsAscii-append (tables ++ codes "insert into big values " ++ big_rows rows ++ codes "; insert into small values " ++ small_rows ++ codes "; ") queries
    (IsAscii-append (tables ++ codes "insert into big values " ++ big_rows rows ++ codes "; insert into small values " ++ small_rows) (codes "; ")
    (IsAscii-append (tables ++ codes "insert into big values " ++ big_rows rows ++ codes "; insert into small values ") small_rows
    (IsAscii-append (tables ++ codes "insert into big values " ++ big_rows rows) (codes "; insert into small values ")
    (IsAscii-append (tables ++ codes "insert into big values ") (big_rows rows) (all_ascii (tables ++ codes "insert into big values ") refl) (rows_ascii 0 rows (omega (arith, fits))))
    (all_ascii (codes "; insert into small values ") refl))
    (all_ascii small_rows refl))
    (all_ascii (codes "; ") refl))
    (all_ascii queries refl))

-- ---- tokens

row_told : (place : ℕ) → place + 1 < 2 ^ 63 → Told (big_at place)
row_told place fits = (tt, (((place + 1, fits, refl), ((tt, ((place + 1) % 10, omega arith, refl)), (tt, refl))), tt))

more_told : (place count : ℕ) → place + count < 2 ^ 63 → Told (more_rows big_at place count)
more_told place zero fits = tt
more_told place (suc count) fits = ((tt, row_told place (omega (arith, fits))), more_told (suc place) count (omega (arith, fits)))

-- ---- a test of what is written out

abbrev is_zero : ℤ → Bool
is_zero (pos zero) = true
is_zero (pos (suc n)) = false
is_zero (negsuc n) = false

no_number : (number : ℤ) → is_zero number ≡ true → number ≡ pos 0
no_number (pos zero) e = refl
no_number (pos (suc n)) e = absurd cc
no_number (negsuc n) e = absurd cc

abbrev fits : ℤ → Bool
fits (pos n) = nat_lt n (2 ^ 63)
fits (negsuc n) = false

abbrev IsName : List ℕ → Type 0
IsName spelled = CanSpell Word spelled (pos 0)

abbrev names : List (List ℕ)
names = codes "big" ∷ codes "small" ∷ codes "k" ∷ codes "g" ∷ codes "t" ∷ codes "x" ∷ codes "name" ∷ []

names_spelled : AllByRecursion IsName names
unfolding class_of
names_spelled = (
  ((refl, refl), refl, refl),
  (
    ((refl, refl), refl, refl),
    (
      ((refl, refl), refl, refl),
      (
        ((refl, refl), refl, refl),
        (
          ((refl, refl), refl, refl),
          (((refl, refl), refl, refl), (((refl, refl), refl, refl), tt)),
        ),
      ),
    ),
  ),
)

abbrev is_named : List (List ℕ) → List ℕ → Bool
is_named [] spelled = false
is_named (word ∷ words) spelled = bytes_eq word spelled || is_named words spelled

named : (words : List (List ℕ)) (spelled : List ℕ) → AllByRecursion IsName words → is_named words spelled ≡ true → IsName spelled
named [] spelled all e = absurd cc
named (word ∷ words) spelled all e = go (bytes_eq word spelled) refl e (named words spelled all.1) where
  go : (same : Bool) → bytes_eq word spelled ≡ same → (same || is_named words spelled) ≡ true → (is_named words spelled ≡ true → IsName spelled) → IsName spelled
  go true is some later = subst IsName ((bytes_eq-Decides word spelled).0 is) all.0
  go false is some later = later some

abbrev can_spell : TokenKind → List ℕ → ℤ → Bool
can_spell Word spelled number = is_named names spelled && is_zero number
can_spell Quoted spelled number = is_zero number
can_spell Number spelled number = fits number
can_spell Text spelled number = is_zero number
can_spell Symbol spelled number = false

in_range : (number : ℤ) → fits number ≡ true → (n : ℕ) × (n < 2 ^ 63) × (number ≡ pos n)
in_range (pos n) e = (n, ltb-true n (2 ^ 63) e, refl)
in_range (negsuc n) e = absurd cc

spellable : (kind : TokenKind) (spelled : List ℕ) (number : ℤ) → can_spell kind spelled number ≡ true → CanSpell kind spelled number
spellable Word spelled number e =
    let parts = and_parts (is_named names spelled) (is_zero number) e in
    subst (CanSpell Word spelled) (sym (no_number number parts.1)) (named names spelled names_spelled parts.0)
spellable Quoted spelled number e = no_number number e
spellable Number spelled number e = in_range number e
spellable Text spelled number e = no_number number e
spellable Symbol spelled number e = absurd cc

abbrev is_told : {rule : SqlRule} → Plan rule → Bool
is_told (a_word written) = true
is_told (a_choice written is) = true
is_told (a_token t is) = can_spell t.kind t.spelled t.number
is_told (plans.both p q) = is_told p && is_told q
is_told (before p b) = is_told p
is_told (behind b p) = is_told p
is_told (first p) = is_told p
is_told (second p) = is_told p
is_told (front_first p) = is_told p
is_told (front_second p) = is_told p
is_told absent = true
is_told (present p) = is_told p
is_told no_more = true
is_told (one_more p q) = is_told p && is_told q
is_told (one_last p) = is_told p
is_told (at_start p) = is_told p
is_told (as_symbol p) = is_told p

told : {rule : SqlRule} (p : Plan rule) → is_told p ≡ true → Told p
told (a_word written) e = tt
told (a_choice written is) e = tt
told (a_token t is) e = spellable t.kind t.spelled t.number e
told (plans.both p q) e = let parts = and_parts (is_told p) (is_told q) e in (told p parts.0, told q parts.1)
told (before p b) e = told p e
told (behind b p) e = told p e
told (first p) e = told p e
told (second p) e = told p e
told (front_first p) e = told p e
told (front_second p) e = told p e
told absent e = tt
told (present p) e = told p e
told no_more e = tt
told (one_more p q) e = let parts = and_parts (is_told p) (is_told q) e in (told p parts.0, told q parts.1)
told (one_last p) e = told p e
told (at_start p) e = told p e
told (as_symbol p) e = told p e

first_is_told : is_told first_table ≡ true
first_is_told = refl

second_is_told : is_told second_table ≡ true
second_is_told = refl

others_are_told : is_told others ≡ true
others_are_told = refl

pub script_told : (more : ℕ) → more + 1 < 2 ^ 63 → Told (script more)
script_told more fits = (
  told first_table first_is_told,
  (
    (tt, told second_table second_is_told),
    ((tt, (tt, (tt, (names_spelled.0, (tt, (row_told 0 (omega (arith, fits)), more_told 1 more (omega (arith, fits)))))))), told others others_are_told),
  ),
)
