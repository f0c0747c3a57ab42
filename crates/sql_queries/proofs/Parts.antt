-- Pieces of rules as their functions read them, part by part.
use Rattle.std.proofs.Common.{◌≡◌, ℕ, cond, List, Option, Some, is_some, inl, refl, sym, ap, ◌∙◌}
use Rattle.sql_lexer.specs.declared.token.Token.{Token}
use Rattle.sql_tree.specs.grammar.Building as b
use Rattle.sql_tree.specs.grammar.Building.{Word}
use Rattle.sql_tree.specs.grammar.Cursors.{reading, past, offset}
use Rattle.sql_tree.specs.grammar.Descent.{Parsed, Taken, Stopped, and_then, mapped}
use Rattle.sql_tree.specs.grammar.built.Pieces as piece
use Rattle.sql_tree.specs.grammar.built.Sequences.{both, behind_option, value_before}
use Rattle.sql_tree.specs.grammar.Grammar.{Given, derived, lateral, left_joined, crossed}
use Rattle.sql_tree.specs.grammar.Rules.{word, ◌then◌, symbol}
use Rattle.sql_tree.specs.grammar.Symbols as n
use Rattle.sql_tree.specs.declared.grammar.sort.Sort.TheVariants as s
use Rattle.sql_queries.specs.built.Sources.{name_behind, marked, sees_lateral, unmarked, source_on, lateral_on}
use Rattle.sql_tree.specs.declared.expression.ExprTree.{ExprTree}
use Rattle.sql_tree.specs.declared.name.Name.{Name}
use Rattle.sql_tree.specs.declared.query.QueryTree.{QueryTree}
use Rattle.sql_tree.specs.declared.query.SetTree.{SetTree}
use Rattle.sql_tree.specs.declared.query.SetTree.TheVariants.{Paren}
use Rattle.sql_tree.specs.declared.source.FromItem.{FromItem}
use Rattle.sql_tree.specs.declared.source.FromSource.{FromSource}
use Rattle.sql_tree.specs.declared.source.FromSource.TheVariants as source
use Rattle.sql_tree.specs.declared.source.JoinStep.{JoinStep}
use Rattle.sql_tree.specs.declared.source.JoinWord.{JoinWord}
use Rattle.sql_tree.specs.declared.source.JoinWord.TheVariants.{Left, Cross, CrossLateral, LeftLateral}
use Rattle.sql_tree.specs.declared.source.ScopeMark.{ScopeMark}
use Rattle.sql_tree.proofs.Outcomes.{fused}
use Rattle.sql_tree.proofs.Queries.{choice_of, pair_of}
use Rattle.sql_tree.proofs.Steps.{reading_is}

-- ---- an inner query as an item

abbrev inner_of : Word × (QueryTree × (Word × (Option Word × Name))) → FromSource × Option Name
inner_of v = b.derived v

pub inner_source_is : (tokens : List Token) → piece.inner_source tokens
    ≡ and_then (past s.Opening tokens) (λ _ a. and_then (reading n.Query a) (λ query c. mapped (λ name. (source.Inner query, Some name)) (name_behind c)))
inner_source_is tokens = by_opening (past s.Opening tokens) where
  by_name : (u : Word) (query : QueryTree) (w : Word) (found : Option Word) (o : Parsed Token Name)
      → mapped inner_of (mapped (λ y. (u, y)) (mapped (λ y. (query, y)) (mapped (λ y. (w, y)) (mapped (λ y. (found, y)) o))))
      ≡ mapped (λ name. (source.Inner query, Some name)) o
  by_name u query w found (Stopped rest) = refl
  by_name u query w found (Taken name rest) = refl

  by_as : (u : Word) (query : QueryTree) (w : Word) (o : Parsed Token (Option Word))
      → mapped inner_of (mapped (λ y. (u, y)) (mapped (λ y. (query, y)) (mapped (λ y. (w, y)) (and_then o (λ found r. mapped (λ y. (found, y)) (reading n.NameOf r))))))
      ≡ mapped (λ name. (source.Inner query, Some name)) (and_then (mapped is_some o) (λ _ r. reading n.NameOf r))
  by_as u query w (Stopped rest) = refl
  by_as u query w (Taken found rest) = by_name u query w found (reading n.NameOf rest)

  by_closing : (u : Word) (query : QueryTree) (o : Parsed Token Word)
      → mapped inner_of (mapped (λ y. (u, y)) (mapped (λ y. (query, y)) (and_then o (λ w r. mapped (λ y. (w, y)) (and_then (piece.word_at s.As r) (λ found t. mapped (λ y. (found, y)) (reading n.NameOf t)))))))
      ≡ mapped (λ name. (source.Inner query, Some name)) (and_then o (λ _ r. and_then (piece.passes s.As r) (λ _ t. reading n.NameOf t)))
  by_closing u query (Stopped rest) = refl
  by_closing u query (Taken w rest) = by_as u query w (piece.word_at s.As rest)

  by_query : (u : Word) (o : Parsed Token QueryTree)
      → mapped inner_of (mapped (λ y. (u, y)) (and_then o (λ query c. mapped (λ y. (query, y)) (and_then (past s.Closing c) (λ w r. mapped (λ y. (w, y)) (and_then (piece.word_at s.As r) (λ found t. mapped (λ y. (found, y)) (reading n.NameOf t))))))))
      ≡ and_then o (λ query c. mapped (λ name. (source.Inner query, Some name)) (name_behind c))
  by_query u (Stopped rest) = refl
  by_query u (Taken query rest) = by_closing u query (past s.Closing rest)

  by_opening : (o : Parsed Token Word)
      → mapped inner_of (and_then o (λ u a. mapped (λ y. (u, y)) (and_then (reading n.Query a) (λ query c. mapped (λ y. (query, y)) (and_then (past s.Closing c) (λ w r. mapped (λ y. (w, y)) (and_then (piece.word_at s.As r) (λ found t. mapped (λ y. (found, y)) (reading n.NameOf t)))))))))
      ≡ and_then o (λ _ a. and_then (reading n.Query a) (λ query c. mapped (λ name. (source.Inner query, Some name)) (name_behind c)))
  by_opening (Stopped rest) = refl
  by_opening (Taken u rest) = by_query u (reading n.Query rest)

-- ---- an item with its mark

pub source_is : (tokens : List Token) → reading n.Source tokens ≡ and_then (reading n.Aliased tokens) (λ aliased rest. marked (offset tokens) aliased rest)
source_is tokens = reading_is n.Source tokens ∙ by_aliased (reading n.Aliased tokens) where
  by_mark : (at : ℕ) (aliased : FromSource × Option Name) (o : Parsed Token ScopeMark)
      → mapped b.from_item (mapped (λ m. ((at, aliased), m)) o)
      ≡ mapped (λ mark. record { at = at; source = aliased.0; alias = aliased.1; mark = mark }) o
  by_mark at (source, alias) (Stopped rest) = refl
  by_mark at (source, alias) (Taken mark rest) = refl

  by_aliased : (o : Parsed Token (FromSource × Option Name))
      → mapped b.from_item (and_then (mapped (λ x. (offset tokens, x)) o) (λ v r. mapped (λ m. (v, m)) (reading n.Mark r)))
      ≡ and_then o (λ aliased rest. marked (offset tokens) aliased rest)
  by_aliased (Stopped rest) = refl
  by_aliased (Taken (source, alias) rest) = by_mark (offset tokens) (source, alias) (reading n.Mark rest)

-- ---- joins

abbrev conditioned : JoinWord → FromItem × (Word × ExprTree) → JoinStep
conditioned operation v = b.joined_on (operation, v)

pub source_on_is : (operation : JoinWord) (tokens : List Token) → source_on operation tokens
    ≡ and_then (reading n.Source tokens) (λ item c. and_then (past s.On c) (λ on e. mapped (λ condition. b.joined_on (operation, (item, (on, condition)))) (reading n.Expr e)))
source_on_is operation tokens = by_item (reading n.Source tokens) where
  by_condition : (item : FromItem) (on : Word) (o : Parsed Token ExprTree)
      → mapped (conditioned operation) (mapped (λ y. (item, y)) (mapped (λ y. (on, y)) o)) ≡ mapped (λ condition. b.joined_on (operation, (item, (on, condition)))) o
  by_condition item on (Stopped rest) = refl
  by_condition item on (Taken condition rest) = refl

  by_on : (item : FromItem) (o : Parsed Token Word)
      → mapped (conditioned operation) (mapped (λ y. (item, y)) (and_then o (λ on e. mapped (λ y. (on, y)) (reading n.Expr e))))
      ≡ and_then o (λ on e. mapped (λ condition. b.joined_on (operation, (item, (on, condition)))) (reading n.Expr e))
  by_on item (Stopped rest) = refl
  by_on item (Taken on rest) = by_condition item on (reading n.Expr rest)

  by_item : (o : Parsed Token FromItem)
      → mapped (conditioned operation) (and_then o (λ item c. mapped (λ y. (item, y)) (and_then (past s.On c) (λ on e. mapped (λ y. (on, y)) (reading n.Expr e)))))
      ≡ and_then o (λ item c. and_then (past s.On c) (λ on e. mapped (λ condition. b.joined_on (operation, (item, (on, condition)))) (reading n.Expr e)))
  by_item (Stopped rest) = refl
  by_item (Taken item rest) = by_on item (past s.On rest)

pub joined_on_is : (tokens : List Token) → piece.joined_on tokens ≡ and_then (reading n.JoinKind tokens) (λ word a. source_on word a)
joined_on_is tokens =
    pair_of b.joined_on (reading n.JoinKind tokens) (piece.by (symbol n.Source then word s.On then symbol n.Expr))

-- ---- lateral joins

pub lateral_item_is : (tokens : List Token) → piece.lateral_item tokens
    ≡ and_then (past s.Lateral tokens) (λ _ a. mapped (λ aliased. unmarked (offset a) aliased) (piece.inner_source a))
lateral_item_is tokens = by_word (past s.Lateral tokens) where
  by_query : (u : Word) (at : ℕ) (o : Parsed Token b.Derived)
      → mapped b.lateral (mapped (λ y. (u, y)) (mapped (λ x. (at, x)) o)) ≡ mapped (λ aliased. unmarked at aliased) (mapped b.derived o)
  by_query u at (Stopped rest) = refl
  by_query u at (Taken v rest) = refl

  by_word : (o : Parsed Token Word)
      → mapped b.lateral (and_then o (λ u a. mapped (λ y. (u, y)) (mapped (λ x. (offset a, x)) (piece.by derived a))))
      ≡ and_then o (λ _ a. mapped (λ aliased. unmarked (offset a) aliased) (piece.inner_source a))
  by_word (Stopped rest) = refl
  by_word (Taken u rest) = by_query u (offset rest) (piece.by derived rest)

abbrev Lateral : Type 0
Lateral = Word × (ℕ × b.Derived)

abbrev left_lateral : Lateral × (Word × Word) → JoinStep
left_lateral v = b.left_joined (inl v)

pub lateral_on_is : (tokens : List Token) → lateral_on tokens
    ≡ and_then (piece.lateral_item tokens) (λ item a. mapped (λ _. b.joined_freely LeftLateral item) (both s.On s.True a))
lateral_on_is tokens = by_item (piece.by lateral tokens) where
  by_true : (v : Lateral) (w : Word) (o : Parsed Token Word)
      → mapped left_lateral (mapped (λ y. (v, y)) (mapped (λ y. (w, y)) o)) ≡ mapped (λ _. b.joined_freely LeftLateral (b.lateral v)) o
  by_true v w (Stopped rest) = refl
  by_true v w (Taken u rest) = refl

  by_on : (v : Lateral) (o : Parsed Token Word)
      → mapped left_lateral (mapped (λ y. (v, y)) (and_then o (λ w c. mapped (λ y. (w, y)) (past s.True c))))
      ≡ mapped (λ _. b.joined_freely LeftLateral (b.lateral v)) (and_then o (λ _ c. past s.True c))
  by_on v (Stopped rest) = refl
  by_on v (Taken w rest) = by_true v w (past s.True rest)

  by_item : (o : Parsed Token Lateral)
      → mapped left_lateral (and_then o (λ v a. mapped (λ y. (v, y)) (and_then (past s.On a) (λ w c. mapped (λ y. (w, y)) (past s.True c)))))
      ≡ and_then (mapped b.lateral o) (λ item a. mapped (λ _. b.joined_freely LeftLateral item) (both s.On s.True a))
  by_item (Stopped rest) = refl
  by_item (Taken v rest) = by_on v (past s.On rest)

pub left_joined_is : (tokens : List Token) → piece.left_joined tokens
    ≡ cond (sees_lateral tokens) (lateral_on tokens) (source_on Left tokens)
left_joined_is tokens =
    choice_of b.left_joined (sees_lateral tokens) (piece.by (lateral then word s.On then word s.True) tokens)
    (piece.by (symbol n.Source then word s.On then symbol n.Expr) tokens)

pub crossed_is : (tokens : List Token) → piece.crossed tokens
    ≡ cond (sees_lateral tokens) (mapped (λ item. b.joined_freely CrossLateral item) (piece.lateral_item tokens))
    (mapped (λ item. b.joined_freely Cross item) (reading n.Source tokens))
crossed_is tokens =
    choice_of b.crossed (sees_lateral tokens) (piece.by lateral tokens) (reading n.Source tokens)
    ∙ ap (λ o. cond (sees_lateral tokens) o (mapped (λ item. b.joined_freely Cross item) (reading n.Source tokens)))
    (sym (fused (λ item. b.joined_freely CrossLateral item) b.lateral (piece.by lateral tokens)))

-- ---- the words of a join

abbrev left_of : Word × (Option Word × (Word × Given left_joined)) → JoinStep
left_of v = b.left_joined v.1.1.1

pub left_join_is : (tokens : List Token) → reading n.LeftJoin tokens
    ≡ and_then (past s.Left tokens) (λ _ a. and_then (behind_option s.Outer s.Join a) (λ _ c. piece.left_joined c))
left_join_is tokens = reading_is n.LeftJoin tokens ∙ by_left (past s.Left tokens) where
  by_last : (u : Word) (w : Option Word) (x : Word) (o : Parsed Token (Given left_joined))
      → mapped left_of (mapped (λ y. (u, y)) (mapped (λ y. (w, y)) (mapped (λ y. (x, y)) o))) ≡ mapped b.left_joined o
  by_last u w x (Stopped rest) = refl
  by_last u w x (Taken v rest) = refl

  by_join : (u : Word) (w : Option Word) (o : Parsed Token Word)
      → mapped left_of (mapped (λ y. (u, y)) (mapped (λ y. (w, y)) (and_then o (λ x d. mapped (λ y. (x, y)) (piece.by left_joined d)))))
      ≡ and_then o (λ _ c. piece.left_joined c)
  by_join u w (Stopped rest) = refl
  by_join u w (Taken x rest) = by_last u w x (piece.by left_joined rest)

  by_outer : (u : Word) (o : Parsed Token (Option Word))
      → mapped left_of (mapped (λ y. (u, y)) (and_then o (λ w c. mapped (λ y. (w, y)) (and_then (past s.Join c) (λ x d. mapped (λ y. (x, y)) (piece.by left_joined d))))))
      ≡ and_then (and_then (mapped is_some o) (λ _ c. past s.Join c)) (λ _ c. piece.left_joined c)
  by_outer u (Stopped rest) = refl
  by_outer u (Taken w rest) = by_join u w (past s.Join rest)

  by_left : (o : Parsed Token Word)
      → mapped left_of (and_then o (λ u a. mapped (λ y. (u, y)) (and_then (piece.word_at s.Outer a) (λ w c. mapped (λ y. (w, y)) (and_then (past s.Join c) (λ x d. mapped (λ y. (x, y)) (piece.by left_joined d)))))))
      ≡ and_then o (λ _ a. and_then (behind_option s.Outer s.Join a) (λ _ c. piece.left_joined c))
  by_left (Stopped rest) = refl
  by_left (Taken u rest) = by_outer u (piece.word_at s.Outer rest)

abbrev crossed_of : Word × (Word × Given crossed) → JoinStep
crossed_of v = b.crossed v.1.1

pub cross_join_is : (tokens : List Token) → reading n.CrossJoin tokens ≡ and_then (both s.Cross s.Join tokens) (λ _ a. piece.crossed a)
cross_join_is tokens = reading_is n.CrossJoin tokens ∙ by_cross (past s.Cross tokens) where
  by_last : (u w : Word) (o : Parsed Token (Given crossed)) → mapped crossed_of (mapped (λ y. (u, y)) (mapped (λ y. (w, y)) o)) ≡ mapped b.crossed o
  by_last u w (Stopped rest) = refl
  by_last u w (Taken v rest) = refl

  by_join : (u : Word) (o : Parsed Token Word)
      → mapped crossed_of (mapped (λ y. (u, y)) (and_then o (λ w a. mapped (λ y. (w, y)) (piece.by crossed a)))) ≡ and_then o (λ _ a. piece.crossed a)
  by_join u (Stopped rest) = refl
  by_join u (Taken w rest) = by_last u w (piece.by crossed rest)

  by_cross : (o : Parsed Token Word)
      → mapped crossed_of (and_then o (λ u r. mapped (λ y. (u, y)) (and_then (past s.Join r) (λ w a. mapped (λ y. (w, y)) (piece.by crossed a)))))
      ≡ and_then (and_then o (λ _ r. past s.Join r)) (λ _ a. piece.crossed a)
  by_cross (Stopped rest) = refl
  by_cross (Taken u rest) = by_join u (past s.Join rest)

-- ---- a query in parentheses

abbrev paren_of : Word × (QueryTree × Word) → SetTree
paren_of v = Paren v.1.0

pub parenthesised_is : (tokens : List Token) → piece.parenthesised tokens
    ≡ and_then (past s.Opening tokens) (λ _ a. and_then (reading n.Query a) (λ query c. value_before s.Closing (Paren query) c))
parenthesised_is tokens = by_opening (past s.Opening tokens) where
  by_closing : (u : Word) (query : QueryTree) (o : Parsed Token Word)
      → mapped paren_of (mapped (λ y. (u, y)) (mapped (λ y. (query, y)) o)) ≡ mapped (λ _. Paren query) o
  by_closing u query (Stopped rest) = refl
  by_closing u query (Taken w rest) = refl

  by_query : (u : Word) (o : Parsed Token QueryTree)
      → mapped paren_of (mapped (λ y. (u, y)) (and_then o (λ query c. mapped (λ y. (query, y)) (past s.Closing c)))) ≡ and_then o (λ query c. value_before s.Closing (Paren query) c)
  by_query u (Stopped rest) = refl
  by_query u (Taken query rest) = by_closing u query (past s.Closing rest)

  by_opening : (o : Parsed Token Word)
      → mapped paren_of (and_then o (λ u a. mapped (λ y. (u, y)) (and_then (reading n.Query a) (λ query c. mapped (λ y. (query, y)) (past s.Closing c)))))
      ≡ and_then o (λ _ a. and_then (reading n.Query a) (λ query c. value_before s.Closing (Paren query) c))
  by_opening (Stopped rest) = refl
  by_opening (Taken u rest) = by_query u (reading n.Query rest)
