-- One step of reading, as functions take it that go past several tokens in one call.
use Rattle.std.proofs.Common.{◌≡◌, Bool, true, false, cond, List, [], ◌∷◌, Option, is_some, inl, inr, refl, ap, ◌∙◌}
use Rattle.sql_lexer.specs.declared.token.Token.{Token}
use Rattle.sql_tree.specs.grammar.Building as b
use Rattle.sql_tree.specs.grammar.Building.{Word}
use Rattle.sql_tree.specs.grammar.Cursors.{reading, one, past, sees}
use Rattle.sql_tree.specs.grammar.Descent.{Parsed, Taken, Stopped, and_then, mapped}
use Rattle.sql_tree.specs.grammar.built.Pieces as piece
use Rattle.sql_tree.specs.grammar.built.Sequences.{both, behind_option, value_before}
use Rattle.sql_tree.specs.grammar.Sorts.{names}
use Rattle.sql_tree.specs.grammar.Symbols as n
use Rattle.sql_tree.specs.declared.grammar.sort.Sort.TheVariants as s
use Rattle.sql_tree.specs.declared.name.Name.{Name}
use Rattle.sql_tree.specs.declared.query.SelectItem.{SelectItem}
use Rattle.sql_tree.specs.declared.query.SelectItem.TheVariants.{TableStar}
use Rattle.sql_tree.specs.declared.source.JoinWord.TheVariants as join
use Rattle.sql_tree.proofs.Queries as queries
use Rattle.sql_tree.proofs.Steps.{reading_is}

-- ---- words

-- what stands behind two words, one after the other or both at once
at_once : {X : Type 0} (o : Parsed Token Word) (k : List Token → Parsed Token Word) (l : List Token → Parsed Token X)
    → and_then o (λ _ a. and_then (k a) (λ _ c. l c)) ≡ and_then (and_then o (λ _ a. k a)) (λ _ c. l c)
at_once (Stopped rest) k l = refl
at_once (Taken w a) k l = refl

pub order_is : (tokens : List Token) → reading n.Order tokens
    ≡ cond (sees (s.Order ∷ []) tokens) (and_then (both s.Order s.By tokens) (λ _ c. piece.keys c)) (Taken [] tokens)
order_is tokens =
    queries.order_is tokens ∙ ap (λ o. cond (sees (s.Order ∷ []) tokens) o (Taken [] tokens)) (at_once (past s.Order tokens) (past s.By) piece.keys)

pub groups_is : (tokens : List Token) → reading n.Groups tokens
    ≡ cond (sees (s.Group ∷ []) tokens) (and_then (both s.Group s.By tokens) (λ _ c. piece.columns c)) (Taken [] tokens)
groups_is tokens =
    queries.groups_is tokens ∙ ap (λ o. cond (sees (s.Group ∷ []) tokens) o (Taken [] tokens)) (at_once (past s.Group tokens) (past s.By) piece.columns)

-- ---- joins

inner_join : (o : Parsed Token (Option Word)) → mapped b.join_word (mapped inl (and_then o (λ w a. mapped (λ y. (w, y)) (past s.Join a)))) ≡ mapped (λ _. join.Inner) (and_then (mapped is_some o) (λ _ a. past s.Join a))
inner_join (Stopped rest) = refl
inner_join (Taken w a) = by_join (past s.Join a) where
  by_join : (o : Parsed Token Word) → mapped b.join_word (mapped inl (mapped (λ y. (w, y)) o)) ≡ mapped (λ _. join.Inner) o
  by_join (Stopped rest) = refl
  by_join (Taken v rest) = refl

outer_join : (o : Parsed Token Token)
    → mapped b.join_word (mapped inr (and_then o (λ t a. mapped (λ y. (t, y)) (and_then (piece.word_at s.Outer a) (λ w c. mapped (λ y. (w, y)) (past s.Join c))))))
    ≡ and_then o (λ t a. mapped (λ _. b.outer_of t) (behind_option s.Outer s.Join a))
outer_join (Stopped rest) = refl
outer_join (Taken t a) = by_outer (piece.word_at s.Outer a) where
  by_join : (w : Option Word) (o : Parsed Token Word) → mapped b.join_word (mapped inr (mapped (λ y. (t, y)) (mapped (λ y. (w, y)) o))) ≡ mapped (λ _. b.outer_of t) o
  by_join w (Stopped rest) = refl
  by_join w (Taken v rest) = refl

  by_outer : (o : Parsed Token (Option Word))
      → mapped b.join_word (mapped inr (mapped (λ y. (t, y)) (and_then o (λ w c. mapped (λ y. (w, y)) (past s.Join c)))))
      ≡ mapped (λ _. b.outer_of t) (and_then (mapped is_some o) (λ _ c. past s.Join c))
  by_outer (Stopped rest) = refl
  by_outer (Taken w c) = by_join w (past s.Join c)

pub join_kind_is : (tokens : List Token) → reading n.JoinKind tokens
    ≡ cond (sees (s.Inner ∷ s.Join ∷ []) tokens) (mapped (λ _. join.Inner) (behind_option s.Inner s.Join tokens))
    (and_then (one (s.Right ∷ s.Full ∷ []) tokens) (λ t a. mapped (λ _. b.outer_of t) (behind_option s.Outer s.Join a)))
join_kind_is tokens = reading_is n.JoinKind tokens ∙ by_test (sees (s.Inner ∷ s.Join ∷ []) tokens) where
  by_test : (c : Bool)
      → mapped b.join_word (cond c (mapped inl (and_then (piece.word_at s.Inner tokens) (λ w a. mapped (λ y. (w, y)) (past s.Join a))))
      (mapped inr (and_then (one (s.Right ∷ s.Full ∷ []) tokens) (λ t a. mapped (λ y. (t, y)) (and_then (piece.word_at s.Outer a) (λ w c. mapped (λ y. (w, y)) (past s.Join c)))))))
      ≡ cond c (mapped (λ _. join.Inner) (behind_option s.Inner s.Join tokens))
      (and_then (one (s.Right ∷ s.Full ∷ []) tokens) (λ t a. mapped (λ _. b.outer_of t) (behind_option s.Outer s.Join a)))
  by_test true = inner_join (piece.word_at s.Inner tokens)
  by_test false = outer_join (one (s.Right ∷ s.Full ∷ []) tokens)

-- ---- pieces

abbrev star_of : Token × (Word × Word) → SelectItem
star_of v = TableStar (b.name_of v.0)

pub table_star_is : (tokens : List Token) → piece.table_star tokens ≡ and_then (one names tokens) (λ t a. mapped (λ _. TableStar (b.name_of t)) (both s.Dot s.Star a))
table_star_is tokens = by_table (one names tokens) where
  by_star : (t : Token) (w : Word) (o : Parsed Token Word)
      → mapped star_of (mapped (λ y. (t, y)) (mapped (λ y. (w, y)) o)) ≡ mapped (λ _. TableStar (b.name_of t)) o
  by_star t w (Stopped rest) = refl
  by_star t w (Taken v rest) = refl

  by_dot : (t : Token) (o : Parsed Token Word)
      → mapped star_of (mapped (λ y. (t, y)) (and_then o (λ w c. mapped (λ y. (w, y)) (past s.Star c))))
      ≡ mapped (λ _. TableStar (b.name_of t)) (and_then o (λ _ c. past s.Star c))
  by_dot t (Stopped rest) = refl
  by_dot t (Taken w c) = by_star t w (past s.Star c)

  by_table : (o : Parsed Token Token)
      → mapped star_of (and_then o (λ t a. mapped (λ y. (t, y)) (and_then (past s.Dot a) (λ w c. mapped (λ y. (w, y)) (past s.Star c)))))
      ≡ and_then o (λ t a. mapped (λ _. TableStar (b.name_of t)) (both s.Dot s.Star a))
  by_table (Stopped rest) = refl
  by_table (Taken t a) = by_dot t (past s.Dot a)

-- what stands between parentheses
between_closed : {X Y : Type 0} (f : Word × (X × Word) → Y) (g : X → Y) → ((x : X) → f (tt, (x, tt)) ≡ g x)
    → (o : Parsed Token Word) (x : List Token → Parsed Token X)
    → mapped f (and_then o (λ w a. mapped (λ y. (w, y)) (and_then (x a) (λ v c. mapped (λ z. (v, z)) (past s.Closing c)))))
    ≡ and_then o (λ _ a. and_then (x a) (λ v c. mapped (λ _. g v) (past s.Closing c)))
between_closed f g e (Stopped rest) x = refl
between_closed {X = X} f g e (Taken tt a) x = by_inside (x a) where
  by_end : (v : X) (o : Parsed Token Word) → mapped f (mapped (λ y. (tt, y)) (mapped (λ z. (v, z)) o)) ≡ mapped (λ _. g v) o
  by_end v (Stopped rest) = refl
  by_end v (Taken tt rest) = ap (λ y. Taken y rest) (e v)

  by_inside : (o : Parsed Token X)
      → mapped f (mapped (λ y. (tt, y)) (and_then o (λ v c. mapped (λ z. (v, z)) (past s.Closing c)))) ≡ and_then o (λ v c. mapped (λ _. g v) (past s.Closing c))
  by_inside (Stopped rest) = refl
  by_inside (Taken v c) = by_end v (past s.Closing c)

pub in_parentheses_is : (tokens : List Token) → reading n.InParentheses tokens ≡ and_then (past s.Opening tokens) (λ _ a. and_then (reading n.Inner a) (λ query c. value_before s.Closing query c))
in_parentheses_is tokens = reading_is n.InParentheses tokens ∙ between_closed (λ v. v.1.0) (λ query. query) (λ query. refl) (past s.Opening tokens) (reading n.Inner)

abbrev names_inside : Word × (List Name × Word) → List Name
names_inside v = v.1.0

abbrev names_in : Word × (Word × (List Name × Word)) → List Name
names_in v = names_inside v.1

pub attributes_is : (tokens : List Token) → piece.attributes tokens ≡ and_then (both s.Provenance s.Opening tokens) (λ _ a. and_then (reading n.Names a) (λ list c. value_before s.Closing list c))
attributes_is tokens = by_word (past s.Provenance tokens) where
  by_inside : (w : Word) (o : Parsed Token (Word × (List Name × Word))) → mapped names_in (mapped (λ y. (w, y)) o) ≡ mapped names_inside o
  by_inside w (Stopped rest) = refl
  by_inside w (Taken v rest) = refl

  by_word : (o : Parsed Token Word)
      → mapped names_in (and_then o (λ u r. mapped (λ y. (u, y)) (and_then (past s.Opening r) (λ w a. mapped (λ y. (w, y)) (and_then (reading n.Names a) (λ v c. mapped (λ z. (v, z)) (past s.Closing c)))))))
      ≡ and_then (and_then o (λ _ r. past s.Opening r)) (λ _ a. and_then (reading n.Names a) (λ list c. value_before s.Closing list c))
  by_word (Stopped rest) = refl
  by_word (Taken w r) =
      by_inside w (and_then (past s.Opening r) (λ w a. mapped (λ y. (w, y)) (and_then (reading n.Names a) (λ v c. mapped (λ z. (v, z)) (past s.Closing c)))))
      ∙ between_closed names_inside (λ list. list) (λ list. refl) (past s.Opening r) (reading n.Names)
