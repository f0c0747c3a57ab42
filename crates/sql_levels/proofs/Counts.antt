-- Words that stand before a part are counted.
use Rattle.std.proofs.Common.{◌≡◌, ℕ, List, [], ◌∷◌, length, refl, ◌∙◌}
use Rattle.sql_lexer.specs.declared.token.Token.{Token}
use Rattle.sql_tree.specs.grammar.Building as b
use Rattle.sql_tree.specs.grammar.Cursors.{reading, past, offset}
use Rattle.sql_tree.specs.grammar.Descent.{Parsed, Taken, Stopped, and_then, mapped}
use Rattle.sql_tree.specs.grammar.Lists.{all_of}
use Rattle.sql_tree.specs.grammar.Symbols as n
use Rattle.sql_tree.specs.declared.grammar.sort.Sort.TheVariants as s
use Rattle.sql_tree.proofs.Steps.{reading_is}

placed-counted : {X Y Z : Type 0} (at : ℕ) (f : ℕ × (X × Y) → Z) (o : Parsed Token X) (next : List Token → Parsed Token Y)
    → mapped f (mapped (λ x. (at, x)) (and_then o (λ x rest. mapped (λ y. (x, y)) (next rest))))
    ≡ and_then o (λ x rest. mapped (λ y. f (at, (x, y))) (next rest))
placed-counted at f (Stopped rest) next = refl
placed-counted {Y = Y} at f (Taken x rest) next = by_next (next rest) where
  by_next : (p : Parsed Token Y) → mapped f (mapped (λ x. (at, x)) (mapped (λ y. (x, y)) p)) ≡ mapped (λ y. f (at, (x, y))) p
  by_next (Stopped rest) = refl
  by_next (Taken y rest) = refl

pub sign_is : (tokens : List Token) → reading n.Sign tokens
    ≡ and_then (all_of (s.Minus ∷ []) (past s.Minus) tokens) (λ minuses rest. mapped (λ part. b.signed (offset tokens) (length minuses) part) (reading n.Primary rest))
sign_is tokens = reading_is n.Sign tokens ∙ placed-counted (offset tokens) b.signs (all_of (s.Minus ∷ []) (past s.Minus) tokens) (reading n.Primary)

pub negated_is : (tokens : List Token) → reading n.Negated tokens
    ≡ and_then (all_of (s.Not ∷ []) (past s.Not) tokens) (λ words rest. mapped (λ part. b.negated (offset tokens) (length words) part) (reading n.Test rest))
negated_is tokens = reading_is n.Negated tokens ∙ placed-counted (offset tokens) b.nots (all_of (s.Not ∷ []) (past s.Not) tokens) (reading n.Test)
