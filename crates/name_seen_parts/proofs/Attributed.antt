-- Attributes of a mark, one after the other.
use Rattle.std.specs.Prelude.{◌≡◌, ℕ, ◌+◌, ◌<◌, Bool, true, false, ◌||◌, List, [], ◌∷◌, ◌++◌, length, Some, Err}
use Rattle.std.specs.List.{list_any}
use mathlib.Core.List.{reverse}
use Rattle.std.proofs.Common.{refl, ap, sym, ◌∙◌, take, drop, get_or}
use Rattle.std.proofs.lemmas.List.{map_more, reverse-append}
use Rattle.std.proofs.lemmas.List.Folds.{list_any-append}
use Rattle.perm_values.proofs.Lists.{dropped}
use Rattle.sql_tree.specs.declared.name.Name.{Name}
use Rattle.name_meaning.specs.Froms.{attribute_breaks, column_breaks, named_so, texts_of}
use Rattle.name_meaning.specs.Meanings.{broken_if}
use Rattle.name_meaning.specs.declared.answer.Break.{Break}
use Rattle.name_seen_parts.specs.Seen.{first_or}
use Rattle.name_seen_parts.specs.Marks.{attribute_break, is_among}
use Rattle.name_seen_parts.proofs.Firsts.{first-stays}
use Rattle.name_meaning.specs.declared.rule.Rule.TheVariants as rule

-- ---- the order of names is of no account

swapped : (a b : Bool) → (a || (b || false)) ≡ (b || a)
swapped true true = refl
swapped true false = refl
swapped false true = refl
swapped false false = refl

pub any-reversed : {X : Type 0} (test : X → Bool) (xs : List X) → list_any test (reverse xs) ≡ list_any test xs
any-reversed test [] = refl
any-reversed test (x ∷ xs) =
    ap (list_any test) (reverse-append (x ∷ []) xs) ∙ list_any-append test (reverse xs) (reverse (x ∷ []))
    ∙ ap (λ b. b || (test x || false)) (any-reversed test xs) ∙ swapped (list_any test xs) (test x)

any-texts : (test : List ℕ → Bool) (names : List Name) → list_any (λ (name : Name). test name.text) names ≡ list_any test (texts_of names)
any-texts test [] = refl
any-texts test (name ∷ names) = ap (λ b. test name.text || b) (any-texts test names)

among-earlier : (name : List ℕ) (earlier : List Name) → is_among earlier name ≡ list_any (named_so name) (reverse (texts_of earlier))
among-earlier name earlier = any-texts (named_so name) earlier ∙ sym (any-reversed (named_so name) (texts_of earlier))

-- ---- attributes behind others

texts-more : (attributes : List Name) (at : ℕ) (attribute : Name) → at < length attributes → attribute ≡ get_or attributes at attribute
    → reverse (texts_of (take (at + 1) attributes)) ≡ attribute.text ∷ reverse (texts_of (take at attributes))
texts-more attributes at attribute within e =
    ap reverse (map_more (λ (name : Name). name.text) attributes at attribute within ∙ ap (λ (name : Name). texts_of (take at attributes) ++ name.text ∷ []) (sym e))
    ∙ reverse-append (texts_of (take at attributes)) (attribute.text ∷ [])

abbrev breaks_behind : List (List ℕ) → List (List ℕ) → Name → List Break
breaks_behind names earlier attribute = column_breaks attribute names ++ broken_if (list_any (named_so attribute.text) earlier) rule.RepeatedColumn attribute.at

break-is : (names : List (List ℕ)) (earlier : List Name) (attribute : Name) → attribute_break names earlier attribute ≡ breaks_behind names (reverse (texts_of earlier)) attribute
break-is names earlier attribute = ap (λ (b : Bool). column_breaks attribute names ++ broken_if b rule.RepeatedColumn attribute.at) (among-earlier attribute.text earlier)

pub attributes-step : (names : List (List ℕ)) (attributes : List Name) (at : ℕ) (attribute : Name) → at < length attributes → attribute ≡ get_or attributes at attribute
    → attribute_break names (take at attributes) attribute ≡ []
    → attribute_breaks (Some names) (reverse (texts_of (take at attributes))) (drop at attributes)
    ≡ attribute_breaks (Some names) (reverse (texts_of (take (at + 1) attributes))) (drop (at + 1) attributes)
attributes-step names attributes at attribute within e none =
    ap (attribute_breaks (Some names) (reverse (texts_of (take at attributes)))) (dropped attributes at attribute within e)
    ∙ ap (λ (breaks : List Break). breaks ++ attribute_breaks (Some names) (attribute.text ∷ reverse (texts_of (take at attributes))) (drop (at + 1) attributes)) (sym (break-is names (take at attributes) attribute) ∙ none)
    ∙ ap (λ (earlier : List (List ℕ)). attribute_breaks (Some names) earlier (drop (at + 1) attributes)) (sym (texts-more attributes at attribute within e))

pub attributes-first : (names : List (List ℕ)) (attributes : List Name) (at : ℕ) (attribute : Name) (first : Break) → at < length attributes → attribute ≡ get_or attributes at attribute
    → first_or (attribute_break names (take at attributes) attribute) (tt {0}) ≡ Err first
    → first_or (attribute_breaks (Some names) (reverse (texts_of (take at attributes))) (drop at attributes)) (tt {0}) ≡ Err first
attributes-first names attributes at attribute first within e broken =
    ap (λ (more : List Name). first_or (attribute_breaks (Some names) (reverse (texts_of (take at attributes))) more) (tt {0})) (dropped attributes at attribute within e)
    ∙ first-stays (breaks_behind names (reverse (texts_of (take at attributes))) attribute)
    (attribute_breaks (Some names) (attribute.text ∷ reverse (texts_of (take at attributes))) (drop (at + 1) attributes)) (tt {0}) (tt {0}) first
    (ap (λ (breaks : List Break). first_or breaks (tt {0})) (sym (break-is names (take at attributes) attribute)) ∙ broken)
