-- A literal that stands alone is an expression.
use Rattle.std.proofs.Common.{◌≡◌, Bool, true, false, ◌&&◌, List, [], ◌∷◌, refl, sym, ap, ◌∙◌}
use Rattle.sql_lexer.specs.declared.token.Token.{Token}
use Rattle.sql_tree.specs.grammar.Building as b
use Rattle.sql_tree.specs.grammar.Cursors.{reading, past, offset, sees}
use Rattle.sql_tree.specs.grammar.Descent.{Taken, mapped}
use Rattle.sql_tree.specs.grammar.Grammar.{sql}
use Rattle.sql_tree.specs.grammar.built.Pieces.{sees_pair}
use Rattle.sql_tree.specs.grammar.Sorts.{same_sort}
use Rattle.sql_tree.specs.grammar.Symbols as n
use Rattle.sql_tree.specs.grammar.Tables.{begins, sql_tables}
use Rattle.sql_tree.specs.declared.grammar.sort.Sort.{Sort}
use Rattle.sql_tree.specs.declared.grammar.sort.Sort.TheVariants as s
use Rattle.sql_tree.specs.declared.expression.ExprTree.{ExprTree}
use Rattle.sql_tree.proofs.Begins.{both_true}
use Rattle.sql_tree.proofs.Fine.{apart, apart-law}
use Rattle.sql_tree.proofs.Listing.{all_of-done}
use Rattle.sql_tree.proofs.Steps.{reading_is}
use Rattle.sql_tree.proofs.TablesHold.{told}
use Rattle.sql_parser.specs.built.Literals.{ends}
use Rattle.sql_levels.specs.built.Tails as tails
use Rattle.sql_levels.proofs.Comparing.{ranged_is}
use Rattle.sql_levels.proofs.Connecting.{both_is, expr_is}
use Rattle.sql_levels.proofs.Counts.{sign_is, negated_is}
use Rattle.sql_primaries.proofs.PrimariesRead.{primary_is}

-- the tokens are read as this expression by a symbol of one part
module _ (tokens rest : List Token) (x : ExprTree) where
  as_product : sees (s.Star ∷ s.Slash ∷ s.Percent ∷ []) rest ≡ false → reading n.Sign tokens ≡ Taken x rest → reading n.Product tokens ≡ Taken x rest
  as_product unseen e = reading_is n.Product tokens ∙ rw (e, all_of-done (s.Star ∷ s.Slash ∷ s.Percent ∷ []) (reading n.ProductStep) rest unseen) refl

  as_sum : sees (s.Plus ∷ s.Minus ∷ []) rest ≡ false → reading n.Product tokens ≡ Taken x rest → reading n.Sum tokens ≡ Taken x rest
  as_sum unseen e = reading_is n.Sum tokens ∙ rw (e, all_of-done (s.Plus ∷ s.Minus ∷ []) (reading n.SumStep) rest unseen) refl

  as_ranged : sees tails.ranges rest ≡ false → reading n.Sum tokens ≡ Taken x rest → reading n.Ranged tokens ≡ Taken x rest
  as_ranged unseen e = ranged_is tokens ∙ rw (e, unseen) refl

  as_compared : sees (begins n.Comparison) rest ≡ false → reading n.Ranged tokens ≡ Taken x rest → reading n.Compared tokens ≡ Taken x rest
  as_compared unseen e = reading_is n.Compared tokens ∙ rw (e, unseen) refl

  as_test : sees (s.Is ∷ []) rest ≡ false → reading n.Compared tokens ≡ Taken x rest → reading n.Test tokens ≡ Taken x rest
  as_test unseen e = reading_is n.Test tokens ∙ rw (e, unseen) refl

  as_both : sees (s.And ∷ []) rest ≡ false → reading n.Negated tokens ≡ Taken x rest → reading n.Both tokens ≡ Taken x rest
  as_both unseen e = both_is tokens ∙ rw (e, unseen) refl

  as_expr : sees (s.Or ∷ []) rest ≡ false → reading n.Both tokens ≡ Taken x rest → reading n.Expr tokens ≡ Taken x rest
  as_expr unseen e = expr_is tokens ∙ rw (e, unseen) refl

  as_sign : sees (s.Minus ∷ []) tokens ≡ false → reading n.Primary tokens ≡ Taken x rest → reading n.Sign tokens ≡ Taken x rest
  as_sign unseen e = sign_is tokens ∙ rw (all_of-done (s.Minus ∷ []) (past s.Minus) tokens unseen, e) refl

  as_negated : sees (s.Not ∷ []) tokens ≡ false → reading n.Test tokens ≡ Taken x rest → reading n.Negated tokens ≡ Taken x rest
  as_negated unseen e = negated_is tokens ∙ rw (all_of-done (s.Not ∷ []) (past s.Not) tokens unseen, e) refl

module _ (t u : Token) (more : List Token) (first : sees (begins n.Literal) (t ∷ []) ≡ true) (second : sees ends (u ∷ []) ≡ true) where
  abbrev tokens : List Token
  tokens = t ∷ u ∷ more

  abbrev rest : List Token
  rest = u ∷ more

  abbrev tree : ExprTree
  tree = b.node t.start (b.literal_of t)

  is_literal : reading n.Literal tokens ≡ Taken (b.literal_of t) rest
  is_literal = reading_is n.Literal tokens ∙ rw first refl

  is_primary : reading n.Primary tokens ≡ Taken tree rest
  is_primary = primary_is tokens ∙ rw (first, is_literal) refl

  -- no literal is of another sort
  other : (sorts : List Sort) → apart same_sort sorts (begins n.Literal) ≡ true → sees sorts tokens ≡ false
  other sorts away = apart-law sql sql_tables told sorts (begins n.Literal) t away first

  -- with what ends it, no expression goes on
  ended : (sorts : List Sort) → apart same_sort sorts ends ≡ true → sees sorts rest ≡ false
  ended sorts away = apart-law sql sql_tables told sorts ends u away second

  is_expr : reading n.Expr tokens ≡ Taken tree rest
  unfolding same_sort
  is_expr =
      as_expr tokens rest tree (ended (s.Or ∷ []) refl)
      (as_both tokens rest tree (ended (s.And ∷ []) refl)
      (as_negated tokens rest tree (other (s.Not ∷ []) refl)
      (as_test tokens rest tree (ended (s.Is ∷ []) refl)
      (as_compared tokens rest tree (ended (begins n.Comparison) refl)
      (as_ranged tokens rest tree (ended tails.ranges refl)
      (as_sum tokens rest tree (ended (s.Plus ∷ s.Minus ∷ []) refl)
      (as_product tokens rest tree (ended (s.Star ∷ s.Slash ∷ s.Percent ∷ []) refl)
      (as_sign tokens rest tree (other (s.Minus ∷ []) refl) is_primary))))))))

  both_read : reading n.Expr tokens ≡ mapped (b.node t.start) (reading n.Literal tokens)
  both_read = is_expr ∙ sym (ap (mapped (b.node t.start)) is_literal)

false_behind : (a : Bool) → a && false ≡ true → ⊥
false_behind true e = absurd cc
false_behind false e = absurd cc

-- where the tokens begin with a literal, and what follows it ends an expression, they are read as the literal's node
pub literal_alone : (tokens : List Token) → sees_pair (begins n.Literal) ends tokens ≡ true
    → reading n.Expr tokens ≡ mapped (b.node (offset tokens)) (reading n.Literal tokens)
literal_alone [] e = absurd cc
literal_alone (t ∷ []) e = absurd (false_behind (sees (begins n.Literal) (t ∷ [])) e)
literal_alone (t ∷ u ∷ more) e =
    let parts = both_true e in
    let behind = both_true parts.1 in
    both_read t u more parts.0 behind.0
