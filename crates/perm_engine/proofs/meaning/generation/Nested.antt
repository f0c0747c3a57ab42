-- A generated script nests within bounds.
use Rattle.std.proofs.Common.{◌≡◌, ◌∙◌, ◌+◌, ◌&&◌, ℕ, zero, suc, Bool, true, false, List, [], ◌∷◌, ◌++◌, length, Option, Some, None, refl, sym, subst}
use Rattle.std.specs.Prelude.{if◌then◌else◌, nat_lt}
use Rattle.sql_lexer.specs.declared.token.Token.{Token}
use Rattle.sql_lexer.specs.Printing.{placed, spelling}
use Rattle.sql_tree.specs.grammar.Sorts.{same_sort, sort_of, symbol_sort, word_sort}
use Rattle.sql_tree.specs.declared.grammar.sort.Sort.{Sort}
use Rattle.sql_tree.specs.declared.grammar.sort.Sort.TheVariants as s
use Rattle.sql_parser.specs.Nesting.{after, first_beyond, too_deep}
use Rattle.tree_texts.specs.plans.Plans.{tokens_of}
use Rattle.tree_texts.proofs.Planned.{sort_stays}
use Rattle.perm_engine.proofs.meaning.generation.Parts.{more_rows}
use Rattle.perm_engine.proofs.meaning.generation.ScriptPlan.{big_at, others, script}

-- so many parentheses and CASEs are open behind a token of the sort
abbrev parentheses_at : Sort → ℕ → ℕ
parentheses_at sort open_now = after s.Opening s.Closing sort open_now

abbrev cases_at : Sort → ℕ → ℕ
cases_at sort open_now = after s.Case s.End sort open_now

abbrev stays_within : Bool → Bool → Bool
stays_within beyond rest = if beyond then false else rest

-- where so many are open before, there are never more than 64
abbrev within : ℕ → ℕ → List Token → Bool
within p c [] = true
within p c (t ∷ ts) =
    stays_within (nat_lt 64 (parentheses_at (sort_of t) p + cases_at (sort_of t) c)) (within (parentheses_at (sort_of t) p) (cases_at (sort_of t) c) ts)

none_beyond : (at p c : ℕ) (ts : List Token) → within p c ts ≡ true → first_beyond 64 p c (placed at ts) ≡ None
none_beyond at p c [] e = refl
none_beyond at p c (t ∷ ts) e =
    let next = at + length (spelling t) + 1 in
    subst (λ sort. (if nat_lt 64 (parentheses_at sort p + cases_at sort c) then Some at else first_beyond 64 (parentheses_at sort p) (cases_at sort c) (placed next ts)) ≡ None)
    (sym (sort_stays at t))
    (by_test (nat_lt 64 (parentheses_at (sort_of t) p + cases_at (sort_of t) c)) (within (parentheses_at (sort_of t) p) (cases_at (sort_of t) c) ts)
    (first_beyond 64 (parentheses_at (sort_of t) p) (cases_at (sort_of t) c) (placed next ts)) e
    (λ rest. none_beyond next (parentheses_at (sort_of t) p) (cases_at (sort_of t) c) ts rest)) where
      by_test : (beyond rest : Bool) (found : Option ℕ) → stays_within beyond rest ≡ true → (rest ≡ true → found ≡ None) → (if beyond then Some at else found) ≡ None
      by_test true rest found e h = absurd cc
      by_test false rest found e h = h e

rows_within : (place count : ℕ) (ts : List Token) → within 0 0 (tokens_of (more_rows big_at place count) ++ ts) ≡ within 0 0 ts
unfolding word_sort symbol_sort same_sort
rows_within place zero ts = refl
rows_within place (suc count) ts = rows_within (suc place) count ts

others_within : within 0 0 (tokens_of others) ≡ true
unfolding word_sort symbol_sort same_sort
others_within = refl

script_within : (more : ℕ) → within 0 0 (tokens_of (script more)) ≡ true
unfolding word_sort symbol_sort same_sort
script_within more = rows_within 1 more (tokens_of others) ∙ others_within

pub script_nests : (more : ℕ) → too_deep (placed 0 (tokens_of (script more))) ≡ None
script_nests more = none_beyond 0 0 0 (tokens_of (script more)) (script_within more)
