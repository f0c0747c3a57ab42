-- What a script is split into can be printed.
use Rattle.std.proofs.Common.{◌≡◌, ℕ, ℤ, true, ◌&&◌, List, [], ◌∷◌, Option, Some, None, refl, ap, subst, ◌∙◌, ⊎_elim, arith}
use Rattle.std.specs.Prelude.{nat_eq, codes}
use Rattle.std.specs.List.{list_all, AllByRecursion}
use Rattle.std.specs.Char.{to_ascii_lowercase}
use Rattle.std.specs.Str.{str_to_ascii_lowercase}
use Rattle.std.specs.Str.Parse.{digits_value}
use Rattle.std.proofs.lemmas.Bool.{cases_Bool, cond_both, and_from, and_parts}
use Rattle.std.proofs.lemmas.Bool.Decides.{nat_tests}
use Rattle.sql_lexer.specs.declared.token.Token.{Token}
use Rattle.sql_lexer.specs.declared.token.TokenKind.{TokenKind}
use Rattle.sql_lexer.specs.declared.token.TokenKind.TheVariants.{Word, Quoted, Number, Text, Symbol}
use Rattle.sql_lexer.specs.declared.scan.Class.{Class}
use Rattle.sql_lexer.specs.declared.scan.Class.TheVariants.{Blank, Letter, Digit, Quote, Single, Other}
use Rattle.sql_lexer.specs.Bytes.{class_of, is_word, joins_word, is_single, pair, held}
use Rattle.sql_lexer.specs.Lexes.{IsWord, Spells, blank, comment, token, LexesTo, nothing, piece}
use Rattle.sql_lexer.specs.Printing.{CanSpell, IsSpellable}
use Rattle.sql_lexer.proofs.Classes.{letter_joins}

lower_letter : (b : ℕ) → class_of b ≡ Letter → class_of (to_ascii_lowercase b) ≡ Letter
unfolding class_of
lower_letter b e = grind (arith, nat_tests)

lower_digit : (b : ℕ) → class_of b ≡ Digit → to_ascii_lowercase b ≡ b
unfolding class_of
lower_digit b e = grind (arith, nat_tests)

lower_twice : (b : ℕ) → to_ascii_lowercase b ≡ to_ascii_lowercase (to_ascii_lowercase b)
lower_twice b = grind (arith, nat_tests)

lower_joins : (b : ℕ) (class : Class) → class_of b ≡ class → joins_word class ≡ true → is_word (to_ascii_lowercase b) ≡ true
lower_joins b Letter e joins = letter_joins (to_ascii_lowercase b) (lower_letter b e)
lower_joins b Digit e joins = ap is_word (lower_digit b e) ∙ ap joins_word e
lower_joins b Blank e joins = absurd (cc)
lower_joins b Quote e joins = absurd (cc)
lower_joins b Single e joins = absurd (cc)
lower_joins b Other e joins = absurd (cc)

lower_all : (bytes : List ℕ) → list_all is_word bytes ≡ true → list_all is_word (str_to_ascii_lowercase bytes) ≡ true
lower_all [] all = refl
lower_all (b ∷ bytes) all =
    let parts = and_parts (is_word b) (list_all is_word bytes) all in
    and_from (is_word (to_ascii_lowercase b)) (list_all is_word (str_to_ascii_lowercase bytes)) (lower_joins b (class_of b) refl parts.0) (lower_all bytes parts.1)

lower_same : (bytes : List ℕ) → str_to_ascii_lowercase bytes ≡ str_to_ascii_lowercase (str_to_ascii_lowercase bytes)
lower_same [] = refl
lower_same (b ∷ bytes) = ap (λ c. c ∷ str_to_ascii_lowercase bytes) (lower_twice b) ∙ ap (λ r. to_ascii_lowercase (to_ascii_lowercase b) ∷ r) (lower_same bytes)

lower_word : (bytes : List ℕ) → IsWord bytes → IsWord (str_to_ascii_lowercase bytes)
lower_word [] is = is
lower_word (b ∷ bytes) is = (lower_letter b is.0, lower_all bytes is.1)

some_same : {x y : List ℕ} → Some x ≡ Some y → x ≡ y
some_same e = cc

-- a choice that gives what is held as it is gives only that
abbrev IsHeldAgain : List ℕ → Option (List ℕ) → Type 0
IsHeldAgain spelled found = found ≡ Some spelled → held spelled ≡ Some spelled

held_pair : (b c : ℕ) (spelled : List ℕ) → pair b c ≡ Some spelled → held spelled ≡ Some spelled
held_pair b c spelled =
    let one : (word : List ℕ) → held word ≡ Some word → IsHeldAgain spelled (Some word) = λ word is e. subst (λ s. held s ≡ Some s) (some_same e) is in
    cond_both (nat_eq b 60 && nat_eq c 62) _ _ (IsHeldAgain spelled) (λ _. one (codes "<>") refl)
    (λ _. cond_both (nat_eq b 33 && nat_eq c 61) _ _ (IsHeldAgain spelled) (λ _. one (codes "<>") refl)
    (λ _. cond_both (nat_eq b 60 && nat_eq c 61) _ _ (IsHeldAgain spelled) (λ _. one (codes "<=") refl)
    (λ _. cond_both (nat_eq b 62 && nat_eq c 61) _ _ (IsHeldAgain spelled) (λ _. one (codes ">=") refl) (λ _ e. absurd (cc)))))

held_again : (bytes spelled : List ℕ) → held bytes ≡ Some spelled → held spelled ≡ Some spelled
held_again [] spelled e = absurd (cc)
held_again (b ∷ []) spelled e =
    ⊎_elim (λ is. let same : Some (b ∷ []) ≡ Some spelled = rw is at e in let word : b ∷ [] ≡ spelled = cc in subst (λ s. held s ≡ Some s) word (rw is refl))
    (λ other. let none : None ≡ Some spelled = rw other at e in absurd (cc)) (cases_Bool (is_single b))
held_again (b ∷ c ∷ []) spelled e = held_pair b c spelled e
held_again (b ∷ c ∷ d ∷ bytes) spelled e = absurd (cc)

can_spell : (kind : TokenKind) (bytes spelled : List ℕ) (number : ℤ) → Spells kind bytes spelled number → CanSpell kind spelled number
can_spell Word bytes spelled number s = rw s.1 (lower_word bytes s.0, lower_same bytes, s.2)
can_spell Quoted bytes spelled number s = s.1
can_spell Number bytes spelled number s = (digits_value 10 bytes, s.3, s.2)
can_spell Text bytes spelled number s = s.1
can_spell Symbol bytes spelled number s = (held_again bytes spelled s.0, s.1)

pub all_spellable : {at stop : ℕ} {text rest : List ℕ} {tokens : List Token} → LexesTo at text tokens stop rest → AllByRecursion IsSpellable tokens
all_spellable nothing = tt
all_spellable (piece e (blank is) d) = all_spellable d
all_spellable (piece e (comment all stop) d) = all_spellable d
all_spellable (piece e (token {bytes = bytes} {token = t} is stop) d) = (can_spell t.kind bytes t.spelled t.number is.spells, all_spellable d)
