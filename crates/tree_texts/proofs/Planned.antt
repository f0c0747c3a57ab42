-- The tokens of a plan spell its tree, wherever its text stands, and its text is read as that tree.
use Rattle.std.proofs.Common.{◌≡◌, ℕ, ℤ, ◌+◌, List, [], ◌∷◌, ◌++◌, length, Contains, zero-add, add-zero, refl, sym, ap, subst, ◌∙◌, append-nil, arith}
use Rattle.std.specs.List.{AllByRecursion}
use Rattle.std.specs.Str.{IsUtf8}
use Rattle.std.proofs.lemmas.Grind.{flat_map-append}
use Rattle.std.proofs.lemmas.List.{length-append}
use Rattle.std.proofs.lemmas.List.Elements.{Contains-append_right}
use Rattle.sql_lexer.specs.declared.token.Token.{Token}
use Rattle.sql_lexer.specs.declared.token.TokenKind.{TokenKind}
use Rattle.sql_lexer.specs.declared.token.TokenKind.TheVariants.{Word, Quoted, Number, Text, Symbol as Sign}
use Rattle.sql_lexer.specs.Lexes.{LexesTo, Lexes}
use Rattle.sql_lexer.specs.Printing.{spelling, plain_spelled, at_place, IsSpellable, spaced, placed as standing}
use Rattle.sql_lexer.proofs.Printed.{read_again}
use Rattle.sql_tree.specs.grammar.Grammar.{sql, SqlRule}
use Rattle.sql_tree.specs.grammar.Rules as rules
use Rattle.sql_tree.specs.grammar.Rules.{◌then◌, ◌or◌, many, Spelled, StartsAt}
use Rattle.sql_tree.specs.grammar.Sorts.{sort_of, sort_by}
use Rattle.sql_tree.specs.declared.grammar.sort.Sort.{Sort}
use Rattle.tree_texts.specs.plans.Blanks.{Blank, left_out, none, both_blank, blank_symbol, blank_value}
use Rattle.tree_texts.specs.plans.Plans.{OneOf, here, there, Plan, a_word, a_choice, a_token, both, before, behind, first, second, front_first, front_second, absent, present, no_more, one_more, one_last, at_start, as_symbol, tokens_of, printed, text_of, value, Told}
use Rattle.tree_texts.specs.plans.Written.{token_for}
use Rattle.tree_texts.proofs.Written.{sorted, spellable}

-- ---- tokens where they stand

pub sort_again : (kind : TokenKind) (spelled : List ℕ) (number : ℤ) → sort_by kind (plain_spelled kind spelled number) ≡ sort_by kind spelled
sort_again Word spelled number = refl
sort_again Quoted spelled number = refl
sort_again Number spelled number = refl
sort_again Text spelled number = refl
sort_again Sign spelled number = refl

-- a token keeps its sort wherever it stands
pub sort_stays : (at : ℕ) (t : Token) → sort_of (at_place at t) ≡ sort_of t
sort_stays at t = sort_again t.kind t.spelled t.number

spaced_append : (us vs : List Token) → spaced (us ++ vs) ≡ spaced us ++ spaced vs
spaced_append us vs = flat_map-append printed us vs

standing_append : (at : ℕ) (us vs : List Token) → standing at (us ++ vs) ≡ standing at us ++ standing (at + length (spaced us)) vs
standing_append at [] vs = ap (λ n. standing n vs) (sym (add-zero at))
standing_append at (t ∷ us) vs =
    let next = at + length (spelling t) + 1 in
    let ends : next + length (spaced us) ≡ at + length ((spelling t ++ 32 ∷ []) ++ spaced us) =
    omega (arith, length-append (spelling t ++ 32 ∷ []) (spaced us), length-append (spelling t) (32 ∷ [])) in
    ap (λ ts. at_place at t ∷ ts) (standing_append next us vs ∙ ap (λ n. standing next us ++ standing n vs) ends)

-- ---- the text of a plan

abbrev IsPrinted : {rule : SqlRule} → Plan rule → Type 0
IsPrinted p = text_of p ≡ spaced (tokens_of p)

joined : (us vs : List Token) (a b : List ℕ) → a ≡ spaced us → b ≡ spaced vs → a ++ b ≡ spaced (us ++ vs)
joined us vs a b e f = ap (λ x. x ++ b) e ∙ ap (λ y. spaced us ++ y) f ∙ sym (spaced_append us vs)

pub text_is : {rule : SqlRule} (p : Plan rule) → IsPrinted p
text_is (a_word {sort = sort} written) = sym (append-nil (printed (token_for sort)))
text_is (a_choice {sort = sort} written is) = sym (append-nil (printed (token_for sort)))
text_is (a_token t is) = sym (append-nil (printed t))
text_is (both p q) = joined (tokens_of p) (tokens_of q) (text_of p) (text_of q) (text_is p) (text_is q)
text_is (before p b) = text_is p
text_is (behind b p) = text_is p
text_is (first p) = text_is p
text_is (second p) = text_is p
text_is (front_first p) = text_is p
text_is (front_second p) = text_is p
text_is absent = refl
text_is (present p) = text_is p
text_is no_more = refl
text_is (one_more p q) = joined (tokens_of p) (tokens_of q) (text_of p) (text_of q) (text_is p) (text_is q)
text_is (one_last p) = text_is p
text_is (at_start p) = text_is p
text_is (as_symbol p) = text_is p

-- ---- the tree of a plan

pub contained : {sorts : List Sort} {sort : Sort} → OneOf sorts sort → Contains sorts sort
contained (here {sort = sort} {sorts = sorts}) = (0, omega arith, refl)
contained (there {sort = sort} {other = other} {sorts = sorts} is) =
    Contains-append_right (other ∷ []) sorts sort (contained is)

pub blank_spelled : {rule : SqlRule} (b : Blank rule) → Spelled sql rule [] (blank_value b)
blank_spelled left_out = rules.absent
blank_spelled none = rules.no_more
blank_spelled (both_blank b c) = rules.both {us = []} (blank_spelled b) (blank_spelled c)
blank_spelled (blank_symbol b) = rules.as_symbol (blank_spelled b)

starts : (at : ℕ) (tokens : List Token) → StartsAt sql at (standing at tokens)
starts at [] = tt
starts at (t ∷ tokens) = refl

-- the tokens behind others stand where the text of those ends
cut : {rule : SqlRule} (p : Plan rule) (at : ℕ) (vs : List Token)
    → standing at (tokens_of p) ++ standing (at + length (text_of p)) vs ≡ standing at (tokens_of p ++ vs)
cut p at vs =
    ap (λ text. standing at (tokens_of p) ++ standing (at + length text) vs) (text_is p) ∙ sym (standing_append at (tokens_of p) vs)

pub plan_spelled : {rule : SqlRule} (p : Plan rule) (at : ℕ) → Spelled sql rule (standing at (tokens_of p)) (value at p)
plan_spelled (a_word {sort = sort} written) at = rules.a_word (sort_stays at (token_for sort) ∙ sorted sort written)
plan_spelled (a_choice {sorts = sorts} {sort = sort} written is) at =
    rules.a_token (subst (Contains sorts) (sym (sort_stays at (token_for sort) ∙ sorted sort written)) (contained is))
plan_spelled (a_token {sorts = sorts} t is) at = rules.a_token (subst (Contains sorts) (sym (sort_stays at t)) (contained is))
plan_spelled (both {r = r} {s = s} p q) at =
    subst (λ us. Spelled sql (r then s) us (value at (both p q))) (cut p at (tokens_of q))
    (rules.both (plan_spelled p at) (plan_spelled q (at + length (text_of p))))
plan_spelled (before {r = r} {s = s} p b) at =
    subst (λ us. Spelled sql (r then s) us (value at (before p b))) (append-nil (standing at (tokens_of p)))
    (rules.both (plan_spelled p at) (blank_spelled b))
plan_spelled (behind b p) at = rules.both {us = []} (blank_spelled b) (plan_spelled p at)
plan_spelled (first p) at = rules.first (plan_spelled p at)
plan_spelled (second p) at = rules.second (plan_spelled p at)
plan_spelled (front_first p) at = rules.front_first (plan_spelled p at)
plan_spelled (front_second p) at = rules.front_second (plan_spelled p at)
plan_spelled absent at = rules.absent
plan_spelled (present p) at = rules.present (plan_spelled p at)
plan_spelled no_more at = rules.no_more
plan_spelled (one_more {r = r} p q) at =
    subst (λ us. Spelled sql (many r) us (value at (one_more p q))) (cut p at (tokens_of q))
    (rules.one_more (plan_spelled p at) (plan_spelled q (at + length (text_of p))))
plan_spelled (one_last {r = r} p) at =
    subst (λ us. Spelled sql (many r) us (value at (one_last p))) (append-nil (standing at (tokens_of p)))
    (rules.one_more (plan_spelled p at) rules.no_more)
plan_spelled (at_start p) at = rules.at_place (plan_spelled p at) (starts at (tokens_of p))
plan_spelled (as_symbol p) at = rules.as_symbol (plan_spelled p at)

-- ---- reading the text again

all_append : {X : Type 0} (P : X → Type 0) (us vs : List X) → AllByRecursion P us → AllByRecursion P vs → AllByRecursion P (us ++ vs)
all_append P [] vs all more = more
all_append P (x ∷ us) vs all more = (all.0, all_append P us vs all.1 more)

all_told : {rule : SqlRule} (p : Plan rule) → Told p → AllByRecursion IsSpellable (tokens_of p)
all_told (a_word {sort = sort} written) told = (spellable sort written, tt)
all_told (a_choice {sort = sort} written is) told = (spellable sort written, tt)
all_told (a_token t is) told = (told, tt)
all_told (both p q) told = all_append IsSpellable (tokens_of p) (tokens_of q) (all_told p told.0) (all_told q told.1)
all_told (before p b) told = all_told p told
all_told (behind b p) told = all_told p told
all_told (first p) told = all_told p told
all_told (second p) told = all_told p told
all_told (front_first p) told = all_told p told
all_told (front_second p) told = all_told p told
all_told absent told = tt
all_told (present p) told = all_told p told
all_told no_more told = tt
all_told (one_more p q) told = all_append IsSpellable (tokens_of p) (tokens_of q) (all_told p told.0) (all_told q told.1)
all_told (one_last p) told = all_told p told
all_told (at_start p) told = all_told p told
all_told (as_symbol p) told = all_told p told

pub spaced_is_read : (tokens : List Token) → AllByRecursion IsSpellable tokens → IsUtf8 (spaced tokens) → Lexes (spaced tokens) (standing 0 tokens)
spaced_is_read tokens all utf8 =
    record {
      utf8 = utf8;
      whole = subst (λ text. LexesTo 0 text (standing 0 tokens) (length (spaced tokens)) []) (append-nil (spaced tokens))
          (subst (λ n. LexesTo 0 (spaced tokens ++ []) (standing 0 tokens) n []) (zero-add (length (spaced tokens))) (read_again 0 tokens [] all));
    }

pub text_is_read : {rule : SqlRule} (p : Plan rule) → Told p → IsUtf8 (text_of p) → Lexes (text_of p) (standing 0 (tokens_of p))
text_is_read p told utf8 =
    subst (λ text. Lexes text (standing 0 (tokens_of p))) (sym (text_is p))
    (spaced_is_read (tokens_of p) (all_told p told) (subst IsUtf8 (text_is p) utf8))
