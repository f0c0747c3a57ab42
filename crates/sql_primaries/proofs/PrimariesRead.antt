-- Primaries as their functions read them.
use Rattle.std.proofs.Common.{◌≡◌, ◌⊎◌, Bool, true, false, cond, List, [], ◌∷◌, Option, Some, None, is_some, inl, inr, refl, ap, sym, ◌∙◌}
use Rattle.sql_lexer.specs.declared.token.Token.{Token}
use Rattle.sql_tree.specs.grammar.Building as b
use Rattle.sql_tree.specs.grammar.Building.{Word}
use Rattle.sql_primaries.specs.built.Calls as spelled
use Rattle.sql_primaries.specs.built.Calls.{arms, primary_body}
use Rattle.sql_tree.specs.grammar.Cursors.{reading, past, one, offset, sees}
use Rattle.sql_tree.specs.grammar.Descent.{Parsed, Taken, Stopped, and_then, mapped}
use Rattle.sql_tree.specs.grammar.built.Pieces.{between, word_at}
use Rattle.sql_tree.specs.grammar.Grammar.{plain_names}
use Rattle.sql_tree.specs.grammar.Symbols as n
use Rattle.sql_tree.specs.grammar.Tables.{begins}
use Rattle.sql_tree.specs.declared.grammar.sort.Sort.TheVariants as s
use Rattle.sql_tree.specs.declared.expression.ExprBody.{ExprBody}
use Rattle.sql_tree.specs.declared.expression.ExprBody.TheVariants as e
use Rattle.sql_tree.specs.declared.expression.ExprTree.{ExprTree}
use Rattle.sql_tree.proofs.Between.{closed, between_is, choice_between}
use Rattle.sql_tree.proofs.Outcomes.{fused, pushed, pulled, nested, itself, chosen}
use Rattle.sql_tree.proofs.Queries.{choice_of}
use Rattle.sql_tree.proofs.Steps.{reading_is}

pub case_is : (tokens : List Token) → reading n.Case tokens
    ≡ and_then (past s.Case tokens) (λ word first. and_then (arms first) (λ list rest.
    and_then (reading n.Otherwise rest) (λ otherwise last. mapped (λ end. e.Case list otherwise) (past s.End last))))
case_is tokens = reading_is n.Case tokens ∙ simp (fused, pushed, pulled, nested)

pub primary_is : (tokens : List Token) → reading n.Primary tokens ≡ mapped (b.node (offset tokens)) (primary_body tokens)
primary_is tokens =
    reading_is n.Primary tokens
    ∙ fused (λ v. b.node v.0 (b.alternatives v.1)) (λ x. (offset tokens, x)) _
    ∙ sym (fused (b.node (offset tokens)) b.alternatives _)
    ∙ ap (mapped (b.node (offset tokens)))
    (chosen (sees (begins n.Literal) tokens) _ _ _ _
    (chosen (sees (begins n.Cast) tokens) _ _ _ _
    (chosen (sees (begins n.Case) tokens) _ _ _ _
    (chosen (sees (begins n.Exists) tokens) _ _ _ _
    (chosen (sees (begins n.Parentheses) tokens) _ _ _ _
    (chosen (sees (begins n.Count) tokens) _ _ _ _
    (chosen (sees (begins n.Aggregate) tokens) _ _ _ _
    (chosen (sees (begins n.Coalesce) tokens) _ _ _ _
    (chosen (sees (begins n.NullIf) tokens) _ _ _ _ (itself _))))))))))

-- ---- parentheses

pub parentheses_is : (tokens : List Token) → reading n.Parentheses tokens ≡ between spelled.inside tokens
parentheses_is tokens =
    reading_is n.Parentheses tokens
    ∙ choice_between b.in_parentheses e.Scalar e.Paren (λ x. refl) (λ y. refl) (past s.Opening tokens) (sees (s.Select ∷ [])) (reading n.Inner) (reading n.Expr)

-- ---- functions

pub called_is : {X : Type 0} (f : Token → X → ExprBody) (o : Parsed Token Token) (x : List Token → Parsed Token (Word × (X × Word)))
    (arguments : Token → List Token → Parsed Token ExprBody)
    → ((t : Token) (rest : List Token) → mapped (λ v. b.called f (t, inl v)) (x rest) ≡ arguments t rest)
    → mapped (b.called f) (and_then o (λ t rest. mapped (λ v. (t, v)) (cond (sees (s.Opening ∷ []) rest) (mapped inl (x rest)) (mapped inr (reading n.Qualified rest)))))
    ≡ and_then o (λ t rest. cond (sees (s.Opening ∷ []) rest) (arguments t rest) (spelled.named t rest))
called_is f (Stopped rest) x arguments same = refl
called_is {X = X} f (Taken t rest) x arguments same = by_test (sees (s.Opening ∷ []) rest) (reading n.Qualified rest) where
  by_arguments : (p : Parsed Token (Word × (X × Word))) → mapped (b.called f) (mapped (λ v. (t, v)) (mapped inl p)) ≡ mapped (λ v. b.called f (t, inl v)) p
  by_arguments (Stopped rest) = refl
  by_arguments (Taken v rest) = refl

  by_test : (a : Bool) (q : Parsed Token _)
      → mapped (b.called f) (mapped (λ v. (t, v)) (cond a (mapped inl (x rest)) (mapped inr q))) ≡ cond a (arguments t rest) (mapped (λ name. b.column (t, name)) q)
  by_test true q = by_arguments (x rest) ∙ same t rest
  by_test false (Stopped last) = refl
  by_test false (Taken name last) = refl

pub aggregate_is : (tokens : List Token) → reading n.Aggregate tokens ≡ spelled.called (s.Sum ∷ s.Min ∷ s.Max ∷ []) spelled.aggregate_of tokens
aggregate_is tokens =
    reading_is n.Aggregate tokens
    ∙ called_is b.aggregate (one (s.Sum ∷ s.Min ∷ s.Max ∷ []) tokens) (λ rest. closed (past s.Opening rest) (reading n.Expr)) spelled.aggregate_of
    (λ t rest. between_is (λ v. b.called b.aggregate (t, inl v)) (b.aggregate t) (λ x. refl) (past s.Opening rest) (reading n.Expr))

pub coalesce_is : (tokens : List Token) → reading n.Coalesce tokens ≡ spelled.called (s.Coalesce ∷ []) (λ t rest. spelled.coalesce_of rest) tokens
coalesce_is tokens =
    reading_is n.Coalesce tokens
    ∙ called_is (λ t list. e.Coalesce list) (one (s.Coalesce ∷ []) tokens) (λ rest. closed (past s.Opening rest) (reading n.Exprs)) (λ t rest. spelled.coalesce_of rest)
    (λ t rest. between_is (λ v. b.called (λ t list. e.Coalesce list) (t, inl v)) e.Coalesce (λ x. refl) (past s.Opening rest) (reading n.Exprs))

null_if-same : (t : Token) (v : ExprTree × (Word × ExprTree)) → b.null_if t v ≡ e.NullIf v.0 v.1.1
null_if-same t (first, (comma, second)) = refl

pub null_if_is : (tokens : List Token) → reading n.NullIf tokens ≡ spelled.called (s.NullIf ∷ []) (λ t rest. spelled.null_if_of rest) tokens
null_if_is tokens =
    reading_is n.NullIf tokens
    ∙ called_is b.null_if (one (s.NullIf ∷ []) tokens) (λ rest. closed (past s.Opening rest) spelled.two_parts) (λ t rest. spelled.null_if_of rest)
    (λ t rest. between_is (λ v. b.called b.null_if (t, inl v)) (λ v. e.NullIf v.0 v.1.1) (null_if-same t) (past s.Opening rest) spelled.two_parts)

pub count_is : (tokens : List Token) → reading n.Count tokens ≡ spelled.called (s.Count ∷ []) (λ t rest. spelled.count_arguments rest) tokens
count_is tokens =
    reading_is n.Count tokens
    ∙ called_is (λ t arguments. arguments) (one (s.Count ∷ []) tokens) (λ rest. closed (past s.Opening rest) (reading n.Counted)) (λ t rest. spelled.count_arguments rest)
    (λ t rest. between_is (λ v. b.called (λ t arguments. arguments) (t, inl v)) (λ x. x) (λ x. refl) (past s.Opening rest) (reading n.Counted) ∙ itself _)

counted-values : (o : Parsed Token (Option Word)) (x : List Token → Parsed Token ExprTree)
    → mapped (λ v. b.counted (inr v)) (and_then o (λ distinct rest. mapped (λ part. (distinct, part)) (x rest)))
    ≡ and_then (mapped is_some o) (λ distinct rest. mapped (λ part. e.Aggregate (spelled.count_word distinct) (Some part)) (x rest))
counted-values (Stopped rest) x = refl
counted-values (Taken distinct rest) x = by_word distinct (x rest) where
  by_word : (d : Option Word) (p : Parsed Token ExprTree)
      → mapped (λ v. b.counted (inr v)) (mapped (λ part. (d, part)) p) ≡ mapped (λ part. e.Aggregate (spelled.count_word (is_some d)) (Some part)) p
  by_word None (Stopped rest) = refl
  by_word None (Taken part rest) = refl
  by_word (Some tt) (Stopped rest) = refl
  by_word (Some tt) (Taken part rest) = refl

pub counted_is : (tokens : List Token) → reading n.Counted tokens ≡ cond (sees (s.Star ∷ []) tokens) (spelled.count_rows tokens) (spelled.count_values tokens)
counted_is tokens =
    reading_is n.Counted tokens
    ∙ choice_of b.counted (sees (s.Star ∷ []) tokens) (one (s.Star ∷ []) tokens) _
    ∙ ap (cond (sees (s.Star ∷ []) tokens) (spelled.count_rows tokens)) (counted-values (word_at s.Distinct tokens) (reading n.Expr))

-- ---- columns

pub reference_is : (tokens : List Token) → reading n.Reference tokens ≡ and_then (one plain_names tokens) (λ t rest. spelled.named t rest)
reference_is tokens = reading_is n.Reference tokens ∙ by_first (one plain_names tokens) where
  by_first : (o : Parsed Token Token) → mapped b.column (and_then o (λ t rest. mapped (λ name. (t, name)) (reading n.Qualified rest))) ≡ and_then o (λ t rest. spelled.named t rest)
  by_first (Stopped rest) = refl
  by_first (Taken t rest) = fused b.column (λ name. (t, name)) (reading n.Qualified rest)
