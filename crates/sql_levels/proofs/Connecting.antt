-- Connectives as their functions read them.
use Rattle.std.proofs.Common.{◌≡◌, Bool, true, false, cond, List, [], ◌∷◌, refl, ◌∙◌}
use Rattle.null_logic.specs.declared.operator.Operator.{Operator}
use Rattle.null_logic.specs.declared.operator.Operator.TheVariants.{And, Or}
use Rattle.sql_lexer.specs.declared.token.Token.{Token}
use Rattle.sql_tree.specs.grammar.Building as b
use Rattle.sql_tree.specs.grammar.Building.{Word}
use Rattle.sql_tree.specs.grammar.Cursors.{reading, sees}
use Rattle.sql_tree.specs.grammar.Descent.{Parsed, Taken, Stopped, and_then, mapped}
use Rattle.sql_tree.specs.grammar.Lists.{behind, others, more_listed}
use Rattle.sql_tree.specs.grammar.Symbols as n
use Rattle.sql_tree.specs.declared.grammar.sort.Sort.{Sort}
use Rattle.sql_tree.specs.declared.grammar.sort.Sort.TheVariants as s
use Rattle.sql_tree.specs.declared.expression.ExprBody.TheVariants.{Logic}
use Rattle.sql_tree.specs.declared.expression.ExprTree.{ExprTree}
use Rattle.sql_tree.proofs.Listing.{Keeps, all_of-done, all_of-step, behind-takes}
use Rattle.sql_tree.proofs.Steps.{reading_is, reading-keeps}

-- parts with an operator between them; one part is itself, and no list is made of it
abbrev pub Connected : Operator → Sort → (List Token → Parsed Token ExprTree) → List Token → Parsed Token ExprTree
Connected op separator one tokens =
    and_then (one tokens) (λ part rest. cond (sees (separator ∷ []) rest)
    (mapped (λ parts. b.node part.at (Logic op parts)) (more_listed separator one part rest)) (Taken part rest))

module _ (op : Operator) (separator : Sort) (one : List Token → Parsed Token ExprTree) (keeps : Keeps one) where
  by_more : (part : ExprTree) (x : Word × ExprTree) (o : Parsed Token (List (Word × ExprTree)))
      → mapped (b.logic op) (mapped (λ xs. (part, xs)) (mapped (λ xs. x ∷ xs) o))
      ≡ mapped (λ parts. b.node part.at (Logic op parts)) (mapped (λ xs. b.items (part, xs)) (mapped (λ xs. x ∷ xs) o))
  by_more part x (Stopped rest) = refl
  by_more part x (Taken xs rest) = refl

  by_second : (part : ExprTree) (o : Parsed Token (Word × ExprTree))
      → mapped (b.logic op) (mapped (λ xs. (part, xs)) (and_then o (λ x rest. mapped (λ xs. x ∷ xs) (others separator one rest))))
      ≡ mapped (λ parts. b.node part.at (Logic op parts)) (mapped (λ xs. b.items (part, xs)) (and_then o (λ x rest. mapped (λ xs. x ∷ xs) (others separator one rest))))
  by_second part (Stopped rest) = refl
  by_second part (Taken x rest) = by_more part x (others separator one rest)

  by_next : (part : ExprTree) (rest : List Token) (more : Bool) → sees (separator ∷ []) rest ≡ more
      → mapped (b.logic op) (mapped (λ xs. (part, xs)) (others separator one rest))
      ≡ cond more (mapped (λ parts. b.node part.at (Logic op parts)) (more_listed separator one part rest)) (Taken part rest)
  by_next part rest true e =
      rw (all_of-step (separator ∷ []) (behind separator one) (behind-takes separator one keeps) rest e) (by_second part (behind separator one rest))
  by_next part rest false e = rw (all_of-done (separator ∷ []) (behind separator one) rest e) refl

  connected_is : (o : Parsed Token ExprTree)
      → mapped (b.logic op) (and_then o (λ part rest. mapped (λ xs. (part, xs)) (others separator one rest)))
      ≡ and_then o (λ part rest. cond (sees (separator ∷ []) rest)
      (mapped (λ parts. b.node part.at (Logic op parts)) (more_listed separator one part rest)) (Taken part rest))
  connected_is (Stopped rest) = refl
  connected_is (Taken part rest) = by_next part rest (sees (separator ∷ []) rest) refl

pub both_is : (tokens : List Token) → reading n.Both tokens ≡ Connected And s.And (reading n.Negated) tokens
both_is tokens = reading_is n.Both tokens ∙ connected_is And s.And (reading n.Negated) (record { fewer = reading-keeps n.Negated }) (reading n.Negated tokens)

pub expr_is : (tokens : List Token) → reading n.Expr tokens ≡ Connected Or s.Or (reading n.Both) tokens
expr_is tokens = reading_is n.Expr tokens ∙ connected_is Or s.Or (reading n.Both) (record { fewer = reading-keeps n.Both }) (reading n.Both tokens)
