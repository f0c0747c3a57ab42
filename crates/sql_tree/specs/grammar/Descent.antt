-- Reading by a rule from left to right, where the next token decides.
use Rattle.std.specs.Prelude.{ℕ, zero, suc, Bool, true, false, ◌&&◌, ◌||◌, ◌+◌, ◌*◌, cond, List, [], ◌∷◌, ◌++◌, length, Some, None}
use Rattle.std.proofs.Common.{inl, inr}
use Rattle.std.specs.List.{list_any}
use Rattle.sql_tree.specs.grammar.Rules.{Rule, word, token, ◌then◌, ◌or◌, front, optional, many, placed, symbol, Grammar, RuleOf, ValueOf}

-- a value and the tokens behind it, or the tokens from the first on that can't stand
pub data Parsed (Token X : Type 0) : Type 0 where
  Taken : X → List Token → Parsed Token X
  Stopped : List Token → Parsed Token X

abbrev pub and_then : {Token X Y : Type 0} → Parsed Token X → (X → List Token → Parsed Token Y) → Parsed Token Y
and_then (Taken x rest) next = next x rest
and_then (Stopped rest) next = Stopped rest

abbrev pub mapped : {Token X Y : Type 0} → (X → Y) → Parsed Token X → Parsed Token Y
mapped f (Taken x rest) = Taken (f x) rest
mapped f (Stopped rest) = Stopped rest

-- what a reader of a grammar knows of each symbol: whether nothing spells it, which sorts begin it, and a number
-- below `ranks` that falls where one symbol's rule calls another before it took a token
pub record Tables (g : Grammar) : Type 0 where
  pub empty : g.Symbol → Bool
  pub begins : g.Symbol → List g.Sort
  pub rank : g.Symbol → ℕ
  pub ranks : ℕ

-- whether a rule can spell nothing
abbrev pub nullable : {Sort Symbol : Type 0} → (Symbol → Bool) → Rule Sort Symbol → Bool
nullable empty (word sort) = false
nullable empty (token sorts) = false
nullable empty (r then s) = nullable empty r && nullable empty s
nullable empty (r or s) = nullable empty r || nullable empty s
nullable empty (front r s) = nullable empty r || nullable empty s
nullable empty (optional r) = true
nullable empty (many r) = true
nullable empty (placed r) = nullable empty r
nullable empty (symbol n) = empty n

-- the sorts with which a rule begins
abbrev pub starts : {Sort Symbol : Type 0} → (Symbol → Bool) → (Symbol → List Sort) → Rule Sort Symbol → List Sort
starts empty begins (word sort) = sort ∷ []
starts empty begins (token sorts) = sorts
starts empty begins (r then s) = starts empty begins r ++ cond (nullable empty r) (starts empty begins s) []
starts empty begins (r or s) = starts empty begins r ++ starts empty begins s
starts empty begins (front r s) = starts empty begins r ++ starts empty begins s
starts empty begins (optional r) = starts empty begins r
starts empty begins (many r) = starts empty begins r
starts empty begins (placed r) = starts empty begins r
starts empty begins (symbol n) = begins n

-- a sequence of single tokens, at least one
abbrev pub is_flat : {Sort Symbol : Type 0} → Rule Sort Symbol → Bool
is_flat (word sort) = true
is_flat (token sorts) = true
is_flat (r then s) = is_flat r && is_flat s
is_flat (r or s) = false
is_flat (front r s) = false
is_flat (optional r) = false
is_flat (many r) = false
is_flat (placed r) = false
is_flat (symbol n) = false

-- the sorts of the single tokens at the front of a rule, up to the first part that isn't one
abbrev pub fronts : {Sort Symbol : Type 0} → Rule Sort Symbol → List (List Sort)
fronts (word sort) = (sort ∷ []) ∷ []
fronts (token sorts) = sorts ∷ []
fronts (r then s) = fronts r ++ cond (is_flat r) (fronts s) []
fronts (r or s) = []
fronts (front r s) = []
fronts (optional r) = []
fronts (many r) = []
fronts (placed r) = fronts r
fronts (symbol n) = []

module _ (g : Grammar) (tables : Tables g) where
  -- whether the next token is of one of these sorts
  abbrev pub next_is : List g.Sort → List g.Token → Bool
  next_is sorts [] = false
  next_is sorts (t ∷ rest) = list_any (g.same (g.sort t)) sorts

  -- whether the tokens begin with one of each of these sorts
  abbrev pub begins_with : List (List g.Sort) → List g.Token → Bool
  begins_with [] ts = true
  begins_with (sorts ∷ more) [] = false
  begins_with (sorts ∷ more) (t ∷ rest) = list_any (g.same (g.sort t)) sorts && begins_with more rest

  abbrev pub start_of : RuleOf g → List g.Sort
  start_of r = starts tables.empty tables.begins r

  abbrev pub offset_of : List g.Token → ℕ
  offset_of [] = 0
  offset_of (t ∷ rest) = g.offset t

  abbrev pub take_word : g.Sort → List g.Token → Parsed g.Token (Unit {0})
  take_word sort [] = Stopped []
  take_word sort (t ∷ rest) = cond (g.same (g.sort t) sort) (Taken tt rest) (Stopped (t ∷ rest))

  abbrev pub take_token : List g.Sort → List g.Token → Parsed g.Token g.Token
  take_token sorts [] = Stopped []
  take_token sorts (t ∷ rest) = cond (list_any (g.same (g.sort t)) sorts) (Taken t rest) (Stopped (t ∷ rest))

  -- as long as the next token begins one, at most this number of times
  unfoldable pub repeated : {X : Type 0} → List g.Sort → (List g.Token → Parsed g.Token X) → ℕ → List g.Token → Parsed g.Token (List X)
  repeated sorts one zero ts = Taken [] ts
  repeated sorts one (suc count) ts =
      cond (next_is sorts ts)
      (and_then (one ts) (λ x mid. mapped (λ xs. x ∷ xs) (repeated sorts one count mid)))
      (Taken [] ts)

  -- reading by a rule, where the symbols are read so
  abbrev pub step : ((n : g.Symbol) → List g.Token → Parsed g.Token (g.Tree n)) → (r : RuleOf g) → List g.Token → Parsed g.Token (ValueOf g r)
  step calls (word sort) ts = take_word sort ts
  step calls (token sorts) ts = take_token sorts ts
  step calls (r then s) ts = and_then (step calls r ts) (λ x mid. mapped (λ y. (x, y)) (step calls s mid))
  step calls (r or s) ts = cond (next_is (start_of r) ts) (mapped inl (step calls r ts)) (mapped inr (step calls s ts))
  step calls (front r s) ts = cond (begins_with (fronts r) ts) (mapped inl (step calls r ts)) (mapped inr (step calls s ts))
  step calls (optional r) ts = cond (next_is (start_of r) ts) (mapped Some (step calls r ts)) (Taken None ts)
  step calls (many r) ts = repeated (start_of r) (step calls r) (length ts) ts
  step calls (placed r) ts = mapped (λ x. (offset_of ts, x)) (step calls r ts)
  step calls (symbol n) ts = calls n ts

  -- reading of a symbol, no deeper than this number of calls
  unfoldable pub reading_to : ℕ → (n : g.Symbol) → List g.Token → Parsed g.Token (g.Tree n)
  reading_to zero n ts = Stopped ts
  reading_to (suc depth) n ts = mapped (g.build n) (step (reading_to depth) (g.body n) ts)

  -- calls go no deeper than this: each takes a token or falls in rank
  unfoldable pub read : (n : g.Symbol) → List g.Token → Parsed g.Token (g.Tree n)
  read n ts = reading_to (suc (length ts * tables.ranks + tables.rank n)) n ts
