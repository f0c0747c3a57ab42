-- Predicates as their functions read them.
use Rattle.std.proofs.Common.{◌≡◌, ◌<◌, Bool, true, false, cond, List, [], ◌∷◌, Option, Some, None, is_some, length, inl, inr, refl, ap, ◌∙◌}
use Rattle.sql_lexer.specs.declared.token.Token.{Token}
use Rattle.sql_tree.specs.grammar.Building as b
use Rattle.sql_tree.specs.grammar.Building.{Word}
use Rattle.sql_tree.specs.grammar.Cursors.{reading, past, one, sees}
use Rattle.sql_tree.specs.grammar.Descent.{Parsed, Taken, Stopped, and_then, mapped}
use Rattle.sql_tree.specs.grammar.built.Pieces.{between, by, passes, word_at}
use Rattle.sql_tree.specs.grammar.Rules.{word, token, symbol, ◌then◌}
use Rattle.sql_tree.specs.grammar.Symbols as n
use Rattle.sql_tree.specs.declared.grammar.sort.Sort.TheVariants as s
use Rattle.sql_tree.specs.declared.expression.ExprTree.{ExprTree}
use Rattle.sql_tree.specs.declared.query.QueryTree.{QueryTree}
use Rattle.sql_levels.specs.built.Tails as tails
use Rattle.sql_levels.specs.declared.tail.Tail.TheVariants as tail
use Rattle.sql_tree.proofs.Between.{choice_between}
use Rattle.sql_tree.proofs.Queries.{choice_of}
use Rattle.sql_tree.proofs.Steps.{reading_is, reading-takes}

pub sum_takes : (old : List Token) (x : ExprTree) (new : List Token) → reading n.Sum old ≡ Taken x new → length new < length old
sum_takes = reading-takes n.Sum refl

-- ---- behind IS

pub is_test_is : (tokens : List Token) → reading n.IsTest tokens
    ≡ and_then (past s.Is tokens) (λ is first. and_then (passes s.Not first) (λ negated rest. mapped (λ t. tails.behind (negated, t)) (tails.is_tail rest)))
is_test_is tokens = reading_is n.IsTest tokens ∙ by_word (past s.Is tokens) where
  by_tail : (w : Word) (d : Option Word) (a c : Bool) (o p : Parsed Token Token) (q : Parsed Token (Word × (Word × ExprTree)))
      → mapped (λ (v : Word × (Option Word × _)). b.is_test v.1) (mapped (λ y. (w, y)) (mapped (λ y. (d, y)) (cond a (mapped inl o) (mapped inr (cond c (mapped inl p) (mapped inr q))))))
      ≡ mapped (λ t. tails.behind (is_some d, t)) (cond a (mapped (λ t. tail.Null) o) (cond c (mapped (λ t. tail.Truth (b.truth_of t)) p) (mapped (λ v. tail.Distinct v.1.1) q)))
  by_tail w d true c (Stopped rest) p q = refl
  by_tail w d true c (Taken t rest) p q = refl
  by_tail w d false true o (Stopped rest) q = refl
  by_tail w d false true o (Taken t rest) q = refl
  by_tail w d false false o p (Stopped rest) = refl
  by_tail w d false false o p (Taken (x, (y, second)) rest) = refl

  by_negation : (w : Word) (o : Parsed Token (Option Word))
      → mapped (λ (v : Word × (Option Word × _)). b.is_test v.1) (mapped (λ y. (w, y)) (and_then o (λ d rest. mapped (λ y. (d, y))
      (cond (sees (s.Null ∷ []) rest) (mapped inl (one (s.Null ∷ []) rest)) (mapped inr (cond (sees tails.truths rest) (mapped inl (one tails.truths rest))
      (mapped inr (by (word s.Distinct then word s.From then symbol n.Compared) rest))))))))
      ≡ and_then (mapped is_some o) (λ negated rest. mapped (λ t. tails.behind (negated, t)) (tails.is_tail rest))
  by_negation w (Stopped rest) = refl
  by_negation w (Taken d rest) =
      by_tail w d (sees (s.Null ∷ []) rest) (sees tails.truths rest) (one (s.Null ∷ []) rest) (one tails.truths rest) (by (word s.Distinct then word s.From then symbol n.Compared) rest)

  by_word : (o : Parsed Token Word)
      → mapped (λ (v : Word × (Option Word × _)). b.is_test v.1) (and_then o (λ w first. mapped (λ y. (w, y)) (and_then (word_at s.Not first) (λ d rest. mapped (λ y. (d, y))
      (cond (sees (s.Null ∷ []) rest) (mapped inl (one (s.Null ∷ []) rest)) (mapped inr (cond (sees tails.truths rest) (mapped inl (one tails.truths rest))
      (mapped inr (by (word s.Distinct then word s.From then symbol n.Compared) rest)))))))))
      ≡ and_then o (λ is first. and_then (passes s.Not first) (λ negated rest. mapped (λ t. tails.behind (negated, t)) (tails.is_tail rest)))
  by_word (Stopped rest) = refl
  by_word (Taken w first) = by_negation w (word_at s.Not first)

-- ---- comparisons

pub comparison_is : (tokens : List Token) → reading n.Comparison tokens
    ≡ and_then (one (s.Equal ∷ s.NotEqual ∷ s.Less ∷ s.LessEqual ∷ s.Greater ∷ s.GreaterEqual ∷ []) tokens) (λ t rest.
    mapped tails.compared (cond (sees tails.quantifiers rest) (tails.quantified (b.comparison_of t) rest) (tails.second (b.comparison_of t) rest)))
comparison_is tokens = reading_is n.Comparison tokens ∙ by_first (one (s.Equal ∷ s.NotEqual ∷ s.Less ∷ s.LessEqual ∷ s.Greater ∷ s.GreaterEqual ∷ []) tokens) where
  by_test : (t : Token) (a : Bool) (o : Parsed Token (Token × QueryTree)) (p : Parsed Token ExprTree)
      → mapped b.comparison (mapped (λ v. (t, v)) (cond a (mapped inl o) (mapped inr p)))
      ≡ mapped tails.compared (cond a (mapped (λ v. tail.Quantified (b.is v.0 s.All) (b.comparison_of t) v.1) o) (mapped (λ part. tail.Compared (b.comparison_of t) part) p))
  by_test t true (Stopped rest) p = refl
  by_test t true (Taken (quantifier, query) rest) p = refl
  by_test t false o (Stopped rest) = refl
  by_test t false o (Taken part rest) = refl

  by_first : (o : Parsed Token Token)
      → mapped b.comparison (and_then o (λ t rest. mapped (λ v. (t, v))
      (cond (sees tails.quantifiers rest) (mapped inl (by (token tails.quantifiers then symbol n.InParentheses) rest)) (mapped inr (reading n.Ranged rest)))))
      ≡ and_then o (λ t rest. mapped tails.compared (cond (sees tails.quantifiers rest) (tails.quantified (b.comparison_of t) rest) (tails.second (b.comparison_of t) rest)))
  by_first (Stopped rest) = refl
  by_first (Taken t rest) = by_test t (sees tails.quantifiers rest) (by (token tails.quantifiers then symbol n.InParentheses) rest) (reading n.Ranged rest)

-- ---- LIKE, BETWEEN and IN

pub range_is : (tokens : List Token) → reading n.Range tokens
    ≡ cond (sees (s.Like ∷ []) tokens) (tails.like tokens) (cond (sees (s.Between ∷ []) tokens) (tails.bounds tokens) (tails.within tokens))
range_is tokens =
    reading_is n.Range tokens
    ∙ choice_of b.range (sees (s.Like ∷ []) tokens) (by (word s.Like then symbol n.Sum) tokens) _
    ∙ ap (cond (sees (s.Like ∷ []) tokens) (tails.like tokens))
    (choice_of (λ v. b.range (inr v)) (sees (s.Between ∷ []) tokens) (by (word s.Between then symbol n.Sum then word s.And then symbol n.Sum) tokens)
    (by (word s.In then symbol n.Members) tokens))

pub members_is : (tokens : List Token) → reading n.Members tokens ≡ between tails.among tokens
members_is tokens =
    reading_is n.Members tokens
    ∙ choice_between b.members tails.in_query tails.in_list (λ x. refl) (λ y. refl) (past s.Opening tokens) (sees (s.Select ∷ [])) (reading n.Inner) (reading n.Exprs)

-- a part, and what may stand behind it
pub ranged_is : (tokens : List Token) → reading n.Ranged tokens
    ≡ and_then (reading n.Sum tokens) (λ part rest. cond (sees tails.ranges rest)
    (and_then (passes s.Not rest) (λ negated last. mapped (λ range. range negated part) (reading n.Range last))) (Taken part rest))
ranged_is tokens = reading_is n.Ranged tokens ∙ by_part (reading n.Sum tokens) where
  by_range : (part : ExprTree) (d : Option Word) (o : Parsed Token (Bool → ExprTree → ExprTree))
      → mapped b.ranged (mapped (λ y. (part, y)) (mapped Some (mapped (λ range. (d, range)) o))) ≡ mapped (λ range. range (is_some d) part) o
  by_range part d (Stopped rest) = refl
  by_range part d (Taken range rest) = refl

  by_negation : (part : ExprTree) (o : Parsed Token (Option Word))
      → mapped b.ranged (mapped (λ y. (part, y)) (mapped Some (and_then o (λ d last. mapped (λ range. (d, range)) (reading n.Range last)))))
      ≡ and_then (mapped is_some o) (λ negated last. mapped (λ range. range negated part) (reading n.Range last))
  by_negation part (Stopped rest) = refl
  by_negation part (Taken d last) = by_range part d (reading n.Range last)

  by_test : (part : ExprTree) (rest : List Token) (a : Bool)
      → mapped b.ranged (mapped (λ y. (part, y)) (cond a (mapped Some (and_then (word_at s.Not rest) (λ d last. mapped (λ range. (d, range)) (reading n.Range last)))) (Taken None rest)))
      ≡ cond a (and_then (passes s.Not rest) (λ negated last. mapped (λ range. range negated part) (reading n.Range last))) (Taken part rest)
  by_test part rest true = by_negation part (word_at s.Not rest)
  by_test part rest false = refl

  by_part : (o : Parsed Token ExprTree)
      → mapped b.ranged (and_then o (λ part rest. mapped (λ y. (part, y)) (cond (sees tails.ranges rest)
      (mapped Some (and_then (word_at s.Not rest) (λ d last. mapped (λ range. (d, range)) (reading n.Range last)))) (Taken None rest))))
      ≡ and_then o (λ part rest. cond (sees tails.ranges rest)
      (and_then (passes s.Not rest) (λ negated last. mapped (λ range. range negated part) (reading n.Range last))) (Taken part rest))
  by_part (Stopped rest) = refl
  by_part (Taken part rest) = by_test part rest (sees tails.ranges rest)
