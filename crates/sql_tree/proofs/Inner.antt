-- A query that begins with the word SELECT is read as any query is.
use Rattle.std.proofs.Common.{◌≡◌, ℕ, Bool, true, false, ◌||◌, cond, List, [], ◌∷◌, refl, sym, ap, ◌∙◌}
use Rattle.sql_lexer.specs.declared.token.Token.{Token}
use Rattle.sql_tree.specs.grammar.Building as b
use Rattle.sql_tree.specs.grammar.Cursors.{reading, past, offset, sees}
use Rattle.sql_tree.specs.grammar.Descent.{Parsed, Taken, Stopped, and_then, mapped}
use Rattle.sql_tree.specs.grammar.built.Pieces as piece
use Rattle.sql_tree.specs.grammar.Sorts.{sort_of, same_sort}
use Rattle.sql_tree.specs.grammar.Symbols as n
use Rattle.sql_tree.specs.declared.grammar.sort.Sort.{Sort}
use Rattle.sql_tree.specs.declared.grammar.sort.Sort.TheVariants as s
use Rattle.sql_tree.specs.declared.query.Core.{Core}
use Rattle.sql_tree.specs.declared.query.QueryTree.{QueryTree}
use Rattle.sql_tree.proofs.Queries.{query_is, inner_is, operand_is, core_is}

past-unseen : (sort : Sort) (tokens : List Token) → sees (sort ∷ []) tokens ≡ false → past sort tokens ≡ Stopped tokens
past-unseen sort [] e = refl
past-unseen sort (t ∷ rest) e = by_test (same_sort (sort_of t) sort) e where
  by_test : (c : Bool) → c || false ≡ false → cond c (Taken (tt {0}) rest) (Stopped (t ∷ rest)) ≡ Stopped (t ∷ rest)
  by_test true e = absurd cc
  by_test false e = refl

core-unseen : (tokens : List Token) → sees (s.Select ∷ []) tokens ≡ false → reading n.CoreOf tokens ≡ Stopped tokens
core-unseen tokens e = core_is tokens ∙ rw (past-unseen s.Select tokens e) refl

-- behind an operand that is a core
abbrev behind_core : ℕ → Parsed Token Core → Parsed Token QueryTree
behind_core at o = and_then o (λ core rest. mapped (λ v. b.query_rest v at (b.core_operand core)) (piece.query_rest rest))

as_operand : (at : ℕ) (o : Parsed Token Core)
    → and_then (mapped b.core_operand o) (λ first rest. mapped (λ v. b.query_rest v at first) (piece.query_rest rest)) ≡ behind_core at o
as_operand at (Taken core rest) = refl
as_operand at (Stopped rest) = refl

pub inner_by_query : (tokens : List Token) → reading n.Inner tokens ≡ cond (sees (s.Select ∷ []) tokens) (reading n.Query tokens) (Stopped tokens)
inner_by_query tokens = inner_is tokens ∙ by_test (sees (s.Select ∷ []) tokens) refl where
  by_test : (c : Bool) → sees (s.Select ∷ []) tokens ≡ c → behind_core (offset tokens) (reading n.CoreOf tokens) ≡ cond c (reading n.Query tokens) (Stopped tokens)
  by_test false e = ap (behind_core (offset tokens)) (core-unseen tokens e)
  by_test true e =
      sym (query_is tokens
      ∙ ap (λ o. and_then o (λ first rest. mapped (λ v. b.query_rest v (offset tokens) first) (piece.query_rest rest)))
      (operand_is tokens ∙ ap (λ c. cond c (mapped b.core_operand (reading n.CoreOf tokens)) (piece.parenthesised tokens)) e)
      ∙ as_operand (offset tokens) (reading n.CoreOf tokens))
