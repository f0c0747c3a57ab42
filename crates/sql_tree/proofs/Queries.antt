-- One step of reading the symbols of queries, as their functions take it.
use Rattle.std.proofs.Common.{◌≡◌, ℕ, ◌⊎◌, Bool, true, false, ◌||◌, cond, List, [], ◌∷◌, Option, Some, None, is_some, option_map, inl, inr, refl, sym, ap, ◌∙◌}
use Rattle.sql_lexer.specs.declared.token.Token.{Token}
use Rattle.sql_tree.specs.grammar.Building as b
use Rattle.sql_tree.specs.grammar.Building.{Word}
use Rattle.sql_tree.specs.grammar.Rules.{word, token, ◌then◌, optional, placed, symbol}
use Rattle.sql_tree.specs.grammar.Cursors.{reading, one, past, offset, sees}
use Rattle.sql_tree.specs.grammar.Descent.{Parsed, Taken, Stopped, and_then, mapped, begins_with, step}
use Rattle.sql_tree.specs.grammar.Grammar.{sql, body, list_of, in_parentheses, derived}
use Rattle.sql_tree.specs.grammar.built.Pieces as piece
use Rattle.sql_tree.specs.grammar.Sorts.{names, sort_of, same_sort}
use Rattle.sql_tree.specs.grammar.Symbols as n
use Rattle.sql_tree.specs.grammar.Tables.{join_begins, sql_tables}
use Rattle.sql_tree.specs.declared.grammar.sort.Sort.{Sort}
use Rattle.sql_tree.specs.declared.grammar.sort.Sort.TheVariants as s
use Rattle.sql_tree.specs.declared.expression.ExprTree.{ExprTree}
use Rattle.sql_tree.specs.declared.name.ColRef.{ColRef}
use Rattle.sql_tree.specs.declared.query.QueryTree.{QueryTree}
use Rattle.sql_tree.specs.declared.query.SelectItem.{SelectItem}
use Rattle.sql_tree.specs.declared.query.SelectItem.TheVariants.{Star, TableStar, Value}
use Rattle.sql_tree.specs.declared.query.SetStep.{SetStep}
use Rattle.sql_tree.specs.declared.query.SetTree.{SetTree}
use Rattle.sql_tree.specs.declared.query.SetTree.TheVariants.{Chain}
use Rattle.sql_tree.specs.declared.query.SetWord.{SetWord}
use Rattle.sql_tree.specs.declared.query.SetWord.TheVariants.{Intersect}
use Rattle.sql_tree.specs.declared.source.FromItem.{FromItem}
use Rattle.sql_tree.specs.declared.source.FromTree.{FromTree}
use Rattle.sql_tree.specs.declared.source.JoinStep.{JoinStep}
use Rattle.sql_tree.specs.declared.source.JoinWord.{JoinWord}
use Rattle.sql_tree.specs.declared.source.ScopeMark.TheVariants.{Plain, BaseRelation, External}
use Rattle.sql_tree.specs.declared.query.OrderKey.TheVariants.{Named, Position}
use Rattle.sql_tree.proofs.Listing.{mapped-mapped}
use Rattle.sql_tree.proofs.Steps.{reading_is}

-- ---- choices and sequences

pub sees_more : (sort : _) (sorts : List _) (tokens : List Token) → sees (sort ∷ sorts) tokens ≡ sees (sort ∷ []) tokens || sees sorts tokens
sees_more sort sorts [] = refl
sees_more sort sorts (t ∷ rest) = by_test (same_sort (sort_of t) sort) (sees sorts (t ∷ rest)) where
  by_test : (a b : Bool) → a || b ≡ (a || false) || b
  by_test true b = refl
  by_test false b = refl

-- what stands behind two words
pub two_words : {X Y : Type 0} (o : Parsed Token Word) (k : List Token → Parsed Token Word) (l : List Token → Parsed Token X) (f : Word × (Word × X) → Y) (h : X → Y)
    → ((x : X) → f (tt, (tt, x)) ≡ h x)
    → mapped f (and_then o (λ w a. mapped (λ y. (w, y)) (and_then (k a) (λ v c. mapped (λ x. (v, x)) (l c))))) ≡ and_then o (λ w a. and_then (k a) (λ v c. mapped h (l c)))
two_words (Stopped rest) k l f h e = refl
two_words (Taken tt a) k l f h e = by_second (k a) where
  by_last : (p : Parsed Token _) → mapped f (mapped (λ y. (tt, y)) (mapped (λ x. (tt, x)) p)) ≡ mapped h p
  by_last (Stopped rest) = refl
  by_last (Taken x rest) = ap (λ y. Taken y rest) (e x)

  by_second : (q : Parsed Token Word) → mapped f (mapped (λ y. (tt, y)) (and_then q (λ v c. mapped (λ x. (v, x)) (l c)))) ≡ and_then q (λ v c. mapped h (l c))
  by_second (Stopped rest) = refl
  by_second (Taken tt c) = by_last (l c)

-- an optional list behind two words
listed_if : {X : Type 0} (there : Bool) (tokens : List Token) (o : Parsed Token Word) (k : List Token → Parsed Token Word) (l : List Token → Parsed Token (X × List (Word × X)))
    → mapped b.listed_behind (cond there (mapped Some (and_then o (λ w a. mapped (λ y. (w, y)) (and_then (k a) (λ v c. mapped (λ x. (v, x)) (l c)))))) (Taken None tokens))
    ≡ cond there (and_then o (λ w a. and_then (k a) (λ v c. mapped b.items (l c)))) (Taken [] tokens)
listed_if false tokens o k l = refl
listed_if true tokens o k l =
    mapped-mapped b.listed_behind Some (λ x. b.listed_behind (Some x)) (λ x. refl) (and_then o (λ w a. mapped (λ y. (w, y)) (and_then (k a) (λ v c. mapped (λ x. (v, x)) (l c)))))
    ∙ two_words o k l (λ x. b.listed_behind (Some x)) b.items (λ x. refl)

-- ---- symbols

pub limit_is : (tokens : List Token) → reading n.Limit tokens ≡ mapped b.limit (step sql sql_tables reading (body n.Limit) tokens)
limit_is tokens = reading_is n.Limit tokens

-- an optional choice of two, the first of which a word begins
pub choice_if : {X Y Z : Type 0} (f : Option (X ⊎ Y) → Z) (sort : Sort) (sorts : List Sort) (tokens : List Token) (x : Parsed Token X) (y : Parsed Token Y)
    → mapped f (cond (sees (sort ∷ sorts) tokens) (mapped Some (cond (sees (sort ∷ []) tokens) (mapped inl x) (mapped inr y))) (Taken None tokens))
    ≡ cond (sees (sort ∷ []) tokens) (mapped (λ v. f (Some (inl v))) x) (cond (sees sorts tokens) (mapped (λ v. f (Some (inr v))) y) (Taken (f None) tokens))
choice_if f sort sorts tokens x y =
    ap (λ c. mapped f (cond c (mapped Some (cond (sees (sort ∷ []) tokens) (mapped inl x) (mapped inr y))) (Taken None tokens))) (sees_more sort sorts tokens)
    ∙ by_tests (sees (sort ∷ []) tokens) (sees sorts tokens) x y
  where
    by_tests : (c d : Bool) (x : Parsed Token _) (y : Parsed Token _)
        → mapped f (cond (c || d) (mapped Some (cond c (mapped inl x) (mapped inr y))) (Taken None tokens))
        ≡ cond c (mapped (λ v. f (Some (inl v))) x) (cond d (mapped (λ v. f (Some (inr v))) y) (Taken (f None) tokens))
    by_tests true d (Taken v rest) y = refl
    by_tests true d (Stopped rest) y = refl
    by_tests false true x (Taken v rest) = refl
    by_tests false true x (Stopped rest) = refl
    by_tests false false x y = refl

-- a choice of two
pub choice_of : {X Y Z : Type 0} (f : X ⊎ Y → Z) (there : Bool) (x : Parsed Token X) (y : Parsed Token Y)
    → mapped f (cond there (mapped inl x) (mapped inr y)) ≡ cond there (mapped (λ v. f (inl v)) x) (mapped (λ v. f (inr v)) y)
choice_of f true (Taken v rest) y = refl
choice_of f true (Stopped rest) y = refl
choice_of f false x (Taken v rest) = refl
choice_of f false x (Stopped rest) = refl

pub alias_is : (tokens : List Token) → reading n.Alias tokens
    ≡ cond (sees (s.As ∷ []) tokens) (mapped (λ v. b.alias (Some (inl v))) (piece.by (word s.As then symbol n.NameOf) tokens))
    (cond (sees names tokens) (mapped (λ v. b.alias (Some (inr v))) (reading n.NameOf tokens)) (Taken None tokens))
alias_is tokens = reading_is n.Alias tokens ∙ choice_if b.alias s.As names tokens (piece.by (word s.As then symbol n.NameOf) tokens) (reading n.NameOf tokens)

pub key_is : (tokens : List Token) → reading n.Key tokens
    ≡ cond (sees names tokens) (piece.named_key tokens) (and_then (one (s.Digits ∷ []) tokens) (λ t rest. piece.ordered t.start (Position t.number) rest))
key_is tokens = reading_is n.Key tokens ∙ by_test (sees names tokens) (one names tokens) (one (s.Digits ∷ []) tokens) where
  by_direction : (t : Token ⊎ Token) (at : _) (key : _) → ((d : Option Token) → b.key (t, d) ≡ record { at = at; key = key; descending = b.is_descending d }) → (o : Parsed Token (Option Token))
      → mapped b.key (mapped (λ d. (t, d)) o) ≡ mapped (λ descending. record { at = at; key = key; descending = descending }) (mapped b.is_descending o)
  by_direction t at key e (Stopped rest) = refl
  by_direction t at key e (Taken d rest) = ap (λ x. Taken x rest) (e d)

  by_test : (c : Bool) (o p : Parsed Token Token) →
      mapped b.key (and_then (cond c (mapped inl o) (mapped inr p)) (λ t r. mapped (λ d. (t, d)) (piece.by (optional (token (s.Asc ∷ s.Desc ∷ []))) r)))
      ≡ cond c (and_then o (λ t r. piece.ordered t.start (Named t.spelled) r)) (and_then p (λ t r. piece.ordered t.start (Position t.number) r))
  by_test true (Stopped rest) p = refl
  by_test true (Taken t rest) p = by_direction (inl t) t.start (Named t.spelled) (λ d. refl) (piece.by (optional (token (s.Asc ∷ s.Desc ∷ []))) rest)
  by_test false o (Stopped rest) = refl
  by_test false o (Taken t rest) = by_direction (inr t) t.start (Position t.number) (λ d. refl) (piece.by (optional (token (s.Asc ∷ s.Desc ∷ []))) rest)

pub order_is : (tokens : List Token) → reading n.Order tokens
    ≡ cond (sees (s.Order ∷ []) tokens) (and_then (past s.Order tokens) (λ _ a. and_then (past s.By a) (λ _ c. piece.keys c))) (Taken [] tokens)
order_is tokens = reading_is n.Order tokens ∙ listed_if (sees (s.Order ∷ []) tokens) tokens (past s.Order tokens) (past s.By) (piece.by (list_of (symbol n.Key)))

pub groups_is : (tokens : List Token) → reading n.Groups tokens
    ≡ cond (sees (s.Group ∷ []) tokens) (and_then (past s.Group tokens) (λ _ a. and_then (past s.By a) (λ _ c. piece.columns c))) (Taken [] tokens)
groups_is tokens = reading_is n.Groups tokens ∙ listed_if (sees (s.Group ∷ []) tokens) tokens (past s.Group tokens) (past s.By) (piece.by (list_of (symbol n.ColumnOf)))

pub mark_is : (tokens : List Token) → reading n.Mark tokens
    ≡ cond (sees (s.BaseRelation ∷ []) tokens) (mapped (λ v. BaseRelation) (past s.BaseRelation tokens))
    (cond (sees (s.Provenance ∷ []) tokens) (mapped External (piece.attributes tokens)) (Taken Plain tokens))
mark_is tokens =
    reading_is n.Mark tokens
    ∙ choice_if b.scope_mark s.BaseRelation (s.Provenance ∷ []) tokens (past s.BaseRelation tokens) (piece.by (word s.Provenance then in_parentheses (symbol n.Names)) tokens)
    ∙ ap (λ o. cond (sees (s.BaseRelation ∷ []) tokens) (mapped (λ v. BaseRelation) (past s.BaseRelation tokens)) (cond (sees (s.Provenance ∷ []) tokens) o (Taken Plain tokens)))
    (sym (mapped-mapped External (λ v. v.1.1.0) (λ v. b.scope_mark (Some (inr v))) (λ v. refl) (piece.by (word s.Provenance then in_parentheses (symbol n.Names)) tokens)))

pub aliased_is : (tokens : List Token) → reading n.Aliased tokens ≡ cond (sees names tokens) (piece.named_source tokens) (piece.inner_source tokens)
aliased_is tokens =
    reading_is n.Aliased tokens
    ∙ choice_of b.aliased (sees names tokens) (piece.by (symbol n.NameOf then symbol n.Alias) tokens) (piece.by derived tokens)

pub join_is : (tokens : List Token) → reading n.Join tokens
    ≡ cond (sees join_begins tokens) (piece.joined_on tokens) (cond (sees (s.Left ∷ []) tokens) (reading n.LeftJoin tokens) (reading n.CrossJoin tokens))
join_is tokens =
    reading_is n.Join tokens
    ∙ by_tests (sees join_begins tokens) (sees (s.Left ∷ []) tokens)
    (piece.by (symbol n.JoinKind then symbol n.Source then word s.On then symbol n.Expr) tokens) (reading n.LeftJoin tokens) (reading n.CrossJoin tokens)
  where
    by_tests : (c d : Bool) (x : Parsed Token (JoinWord × (FromItem × (Word × ExprTree)))) (y z : Parsed Token JoinStep)
        → mapped b.join_step (cond c (mapped inl x) (mapped inr (cond d (mapped inl y) (mapped inr z)))) ≡ cond c (mapped b.joined_on x) (cond d y z)
    by_tests true d (Stopped rest) y z = refl
    by_tests true d (Taken v rest) y z = refl
    by_tests false true x (Stopped rest) z = refl
    by_tests false true x (Taken v rest) z = refl
    by_tests false false x y (Stopped rest) = refl
    by_tests false false x y (Taken v rest) = refl

-- an optional list behind a word
sources_if : (there : Bool) (tokens : List Token) (o : Parsed Token Word) (l : List Token → Parsed Token (FromTree × List (Word × FromTree)))
    → mapped b.sources (cond there (mapped Some (and_then o (λ w a. mapped (λ y. (w, y)) (l a)))) (Taken None tokens))
    ≡ cond there (and_then o (λ w a. mapped b.items (l a))) (Taken [] tokens)
sources_if false tokens o l = refl
sources_if true tokens (Stopped rest) l = refl
sources_if true tokens (Taken tt a) l = by_list (l a) where
  by_list : (o : Parsed Token (FromTree × List (Word × FromTree))) → mapped b.sources (mapped Some (mapped (λ y. (tt, y)) o)) ≡ mapped b.items o
  by_list (Stopped rest) = refl
  by_list (Taken x rest) = refl

pub sources_is : (tokens : List Token) → reading n.Sources tokens
    ≡ cond (sees (s.From ∷ []) tokens) (and_then (past s.From tokens) (λ _ a. piece.from_list a)) (Taken [] tokens)
sources_is tokens = reading_is n.Sources tokens ∙ sources_if (sees (s.From ∷ []) tokens) tokens (past s.From tokens) (piece.by (list_of (symbol n.From)))

-- ---- one part behind another

pub pair_of : {X Y Z : Type 0} (f : X × Y → Z) (o : Parsed Token X) (k : List Token → Parsed Token Y)
    → mapped f (and_then o (λ x rest. mapped (λ y. (x, y)) (k rest))) ≡ and_then o (λ x rest. mapped (λ y. f (x, y)) (k rest))
pair_of f (Stopped rest) k = refl
pair_of f (Taken x rest) k = mapped-mapped f (λ y. (x, y)) (λ y. f (x, y)) (λ y. refl) (k rest)

pub from_is : (tokens : List Token) → reading n.From tokens ≡ and_then (reading n.Source tokens) (λ first rest. mapped (λ joins. b.from_tree (first, joins)) (piece.joins rest))
from_is tokens = reading_is n.From tokens ∙ pair_of b.from_tree (reading n.Source tokens) piece.joins

pub term_is : (tokens : List Token) → reading n.Term tokens ≡ and_then (reading n.Operand tokens) (λ first rest. mapped (λ steps. b.set_chain (first, steps)) (piece.intersections rest))
term_is tokens = reading_is n.Term tokens ∙ pair_of b.set_chain (reading n.Operand tokens) piece.intersections

abbrev stepped : {X : Type 0} → (X → SetWord) → X × (Option Word × (ℕ × SetTree)) → SetStep
stepped word_of v = b.set_step (word_of v.0) v.1.0 v.1.1

-- a set operation, its ALL and its operand
set_step_is : {X : Type 0} (o : Parsed Token X) (k : List Token → Parsed Token (Option Word)) (l : List Token → Parsed Token SetTree) (word_of : X → SetWord)
    → mapped (stepped word_of) (and_then o (λ x a. mapped (λ y. (x, y)) (and_then (k a) (λ w c. mapped (λ y. (w, y)) (mapped (λ y. (offset c, y)) (l c))))))
    ≡ and_then o (λ x a. and_then (mapped is_some (k a)) (λ all c. mapped (λ operand. record { word = word_of x; all = all; at = offset c; operand = operand }) (l c)))
set_step_is (Stopped rest) k l word_of = refl
set_step_is (Taken x a) k l word_of = by_word (k a) where
  by_operand : (w : Option Word) (at : ℕ) (q : Parsed Token SetTree) →
      mapped (stepped word_of) (mapped (λ y. (x, y)) (mapped (λ y. (w, y)) (mapped (λ y. (at, y)) q)))
      ≡ mapped (λ operand. record { word = word_of x; all = is_some w; at = at; operand = operand }) q
  by_operand w at (Stopped rest) = refl
  by_operand w at (Taken y rest) = refl

  by_word : (p : Parsed Token (Option Word)) →
      mapped (stepped word_of) (mapped (λ y. (x, y)) (and_then p (λ w c. mapped (λ y. (w, y)) (mapped (λ y. (offset c, y)) (l c)))))
      ≡ and_then (mapped is_some p) (λ all c. mapped (λ operand. record { word = word_of x; all = all; at = offset c; operand = operand }) (l c))
  by_word (Stopped rest) = refl
  by_word (Taken w c) = by_operand w (offset c) (l c)

pub intersect_is : (tokens : List Token) → reading n.IntersectStep tokens
    ≡ and_then (past s.Intersect tokens) (λ _ a. and_then (piece.passes s.All a) (λ all c. mapped (λ operand. record { word = Intersect; all = all; at = offset c; operand = operand }) (reading n.Operand c)))
intersect_is tokens = reading_is n.IntersectStep tokens ∙ set_step_is (past s.Intersect tokens) (piece.word_at s.All) (reading n.Operand) (λ _. Intersect)

pub union_is : (tokens : List Token) → reading n.UnionStep tokens
    ≡ and_then (one (s.Union ∷ s.Except ∷ []) tokens) (λ t a. and_then (piece.passes s.All a) (λ all c. mapped (λ operand. record { word = b.set_word t; all = all; at = offset c; operand = operand }) (reading n.Term c)))
union_is tokens = reading_is n.UnionStep tokens ∙ set_step_is (one (s.Union ∷ s.Except ∷ []) tokens) (piece.word_at s.All) (reading n.Term) b.set_word

abbrev query_of : {X : Type 0} → (X → SetTree) → ℕ × (X × (ℕ → SetTree → QueryTree)) → QueryTree
query_of tree v = v.1.1 v.0 (tree v.1.0)

-- a query behind its first operand
rest_is : {X : Type 0} (at : ℕ) (o : Parsed Token X) (tree : X → SetTree)
    → mapped (query_of tree) (mapped (λ y. (at, y)) (and_then o (λ x rest. mapped (λ y. (x, y)) (reading n.QueryRest rest))))
    ≡ and_then o (λ x rest. mapped (λ v. b.query_rest v at (tree x)) (piece.query_rest rest))
rest_is at (Stopped rest) tree = refl
rest_is at (Taken x rest) tree = ap (λ o. mapped (query_of tree) (mapped (λ y. (at, y)) (mapped (λ y. (x, y)) o))) (reading_is n.QueryRest rest) ∙ by_rest (piece.query_rest rest) where
  by_rest : (o : Parsed Token _) → mapped (query_of tree) (mapped (λ y. (at, y)) (mapped (λ y. (x, y)) (mapped b.query_rest o))) ≡ mapped (λ v. b.query_rest v at (tree x)) o
  by_rest (Stopped r) = refl
  by_rest (Taken v r) = refl

pub query_is : (tokens : List Token) → reading n.Query tokens
    ≡ and_then (reading n.Operand tokens) (λ first rest. mapped (λ v. b.query_rest v (offset tokens) first) (piece.query_rest rest))
query_is tokens = reading_is n.Query tokens ∙ rest_is (offset tokens) (reading n.Operand tokens) (λ first. first)

pub inner_is : (tokens : List Token) → reading n.Inner tokens
    ≡ and_then (reading n.CoreOf tokens) (λ core rest. mapped (λ v. b.query_rest v (offset tokens) (b.core_operand core)) (piece.query_rest rest))
inner_is tokens = reading_is n.Inner tokens ∙ rest_is (offset tokens) (reading n.CoreOf tokens) b.core_operand

pub operand_is : (tokens : List Token) → reading n.Operand tokens ≡ cond (sees (s.Select ∷ []) tokens) (mapped b.core_operand (reading n.CoreOf tokens)) (piece.parenthesised tokens)
operand_is tokens = reading_is n.Operand tokens ∙ choice_of b.operand (sees (s.Select ∷ []) tokens) (reading n.CoreOf tokens) (piece.by (in_parentheses (symbol n.Query)) tokens)

-- ---- SELECT

-- an optional part behind a word
clause_if : {X : Type 0} (there : Bool) (tokens : List Token) (o : Parsed Token Word) (l : List Token → Parsed Token X)
    → mapped b.clause (cond there (mapped Some (and_then o (λ w a. mapped (λ y. (w, y)) (l a)))) (Taken None tokens)) ≡ cond there (and_then o (λ _ a. mapped Some (l a))) (Taken None tokens)
clause_if {X} false tokens o l = refl
clause_if {X} true tokens (Stopped rest) l = refl
clause_if {X} true tokens (Taken tt a) l = by_part (l a) where
  by_part : (o : Parsed Token X) → mapped b.clause (mapped Some (mapped (λ y. (tt, y)) o)) ≡ mapped Some o
  by_part (Stopped rest) = refl
  by_part (Taken x rest) = refl

pub condition_is : (tokens : List Token) → reading n.Condition tokens
    ≡ cond (sees (s.Where ∷ []) tokens) (and_then (past s.Where tokens) (λ _ a. mapped Some (reading n.Expr a))) (Taken None tokens)
condition_is tokens = reading_is n.Condition tokens ∙ clause_if (sees (s.Where ∷ []) tokens) tokens (past s.Where tokens) (reading n.Expr)

pub having_is : (tokens : List Token) → reading n.Having tokens
    ≡ cond (sees (s.Having ∷ []) tokens) (and_then (past s.Having tokens) (λ _ a. mapped Some (reading n.Expr a))) (Taken None tokens)
having_is tokens = reading_is n.Having tokens ∙ clause_if (sees (s.Having ∷ []) tokens) tokens (past s.Having tokens) (reading n.Expr)

pub items_is : (tokens : List Token) → reading n.Items tokens ≡ piece.items tokens
items_is tokens = reading_is n.Items tokens

pub item_is : (tokens : List Token) → reading n.Item tokens
    ≡ cond (sees (s.Star ∷ []) tokens) (mapped (λ t. Star t.start) (one (s.Star ∷ []) tokens))
    (cond (begins_with sql sql_tables (names ∷ (s.Dot ∷ []) ∷ (s.Star ∷ []) ∷ []) tokens) (piece.table_star tokens) (reading n.ItemValue tokens))
item_is tokens =
    reading_is n.Item tokens
    ∙ by_tests (sees (s.Star ∷ []) tokens) (begins_with sql sql_tables (names ∷ (s.Dot ∷ []) ∷ (s.Star ∷ []) ∷ []) tokens)
    (one (s.Star ∷ []) tokens) (piece.by (token names then word s.Dot then word s.Star) tokens) (reading n.ItemValue tokens)
  where
    by_tests : (c d : Bool) (x : Parsed Token Token) (y : Parsed Token (Token × (Word × Word))) (z : Parsed Token SelectItem)
        → mapped b.item (cond c (mapped inl x) (mapped inr (cond d (mapped inl y) (mapped inr z))))
        ≡ cond c (mapped (λ t. Star t.start) x) (cond d (mapped (λ v. TableStar (b.name_of v.0)) y) z)
    by_tests true d (Stopped rest) y z = refl
    by_tests true d (Taken v rest) y z = refl
    by_tests false true x (Stopped rest) z = refl
    by_tests false true x (Taken v rest) z = refl
    by_tests false false x y (Stopped rest) = refl
    by_tests false false x y (Taken v rest) = refl

pub item_value_is : (tokens : List Token) → reading n.ItemValue tokens ≡ and_then (reading n.Expr tokens) (λ expr rest. mapped (λ name. Value expr name) (reading n.Alias rest))
item_value_is tokens = reading_is n.ItemValue tokens ∙ pair_of b.item_value (reading n.Expr tokens) (reading n.Alias)

core_parts : (at : ℕ) (o : Parsed Token Word) (k : List Token → Parsed Token (Option (ℕ × Word))) (l : List Token → Parsed Token (Option Word))
    (m : List Token → Parsed Token (List SelectItem × (List FromTree × (Option ExprTree × (List ColRef × Option ExprTree)))))
    → mapped b.core (mapped (λ y. (at, y)) (and_then o (λ w a. mapped (λ y. (w, y)) (and_then (k a) (λ p c. mapped (λ y. (p, y)) (and_then (l c) (λ d e. mapped (λ y. (d, y)) (m e))))))))
    ≡ and_then o (λ _ a. and_then (mapped (λ found. option_map (λ p. p.0) found) (k a)) (λ p c. and_then (mapped is_some (l c)) (λ d e. mapped (λ v. piece.core_of at p d v) (m e))))
core_parts at (Stopped rest) k l m = refl
core_parts at (Taken tt a) k l m = by_provenance (k a) where
  by_items : (p : Option (ℕ × Word)) (d : Option Word) (q : Parsed Token (List SelectItem × (List FromTree × (Option ExprTree × (List ColRef × Option ExprTree)))))
      → mapped b.core (mapped (λ y. (at, y)) (mapped (λ y. (tt, y)) (mapped (λ y. (p, y)) (mapped (λ y. (d, y)) q)))) ≡ mapped (λ v. piece.core_of at (option_map (λ p. p.0) p) (is_some d) v) q
  by_items p d (Stopped rest) = refl
  by_items p d (Taken v rest) = refl

  by_distinct : (p : Option (ℕ × Word)) (q : Parsed Token (Option Word))
      → mapped b.core (mapped (λ y. (at, y)) (mapped (λ y. (tt, y)) (mapped (λ y. (p, y)) (and_then q (λ d e. mapped (λ y. (d, y)) (m e))))))
      ≡ and_then (mapped is_some q) (λ d e. mapped (λ v. piece.core_of at (option_map (λ p. p.0) p) d v) (m e))
  by_distinct p (Stopped rest) = refl
  by_distinct p (Taken d e) = by_items p d (m e)

  by_provenance : (q : Parsed Token (Option (ℕ × Word)))
      → mapped b.core (mapped (λ y. (at, y)) (mapped (λ y. (tt, y)) (and_then q (λ p c. mapped (λ y. (p, y)) (and_then (l c) (λ d e. mapped (λ y. (d, y)) (m e)))))))
      ≡ and_then (mapped (λ found. option_map (λ p. p.0) found) q) (λ p c. and_then (mapped is_some (l c)) (λ d e. mapped (λ v. piece.core_of at p d v) (m e)))
  by_provenance (Stopped rest) = refl
  by_provenance (Taken p c) = by_distinct p (l c)

pub core_is : (tokens : List Token) → reading n.CoreOf tokens
    ≡ and_then (past s.Select tokens) (λ _ a. and_then (piece.provenance a) (λ p c. and_then (piece.passes s.Distinct c) (λ d e. mapped (λ v. piece.core_of (offset tokens) p d v) (piece.items_on e))))
core_is tokens = reading_is n.CoreOf tokens ∙ core_parts (offset tokens) (past s.Select tokens) (piece.by (optional (placed (word s.Provenance)))) (piece.word_at s.Distinct) piece.items_on

-- without steps an operand is itself
pub set_chain_of : (first : SetTree) (steps : List SetStep) → (steps ≡ [] → ⊥) → b.set_chain (first, steps) ≡ Chain first steps
set_chain_of first [] some = absurd (some refl)
set_chain_of first (step ∷ steps) some = refl
