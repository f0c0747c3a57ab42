-- Rules of a grammar as data, and what they spell: the relation splits lists of tokens, and looks not ahead.
use Rattle.std.specs.Prelude.{◌≡◌, ℕ, Bool, List, [], ◌∷◌, ◌++◌, Option, Some, None, Contains, ◌⊎◌}
use Rattle.std.proofs.Common.{inl, inr}

infixr 40 ◌then◌
infixr 30 ◌or◌
-- the forms of BNF over sorts of tokens and symbols (nonterminals)
pub data Rule (Sort Symbol : Type 0) : Type 0 where
  -- a token of this sort, which says no more
  word : Sort → Rule Sort Symbol
  -- a token of one of these sorts
  token : List Sort → Rule Sort Symbol
  ◌then◌ : Rule Sort Symbol → Rule Sort Symbol → Rule Sort Symbol
  -- a choice, which the next token decides
  ◌or◌ : Rule Sort Symbol → Rule Sort Symbol → Rule Sort Symbol
  -- a choice, which the single tokens at the front of the first rule decide
  front : Rule Sort Symbol → Rule Sort Symbol → Rule Sort Symbol
  optional : Rule Sort Symbol → Rule Sort Symbol
  -- any number of times
  many : Rule Sort Symbol → Rule Sort Symbol
  -- with the offset of its first token
  placed : Rule Sort Symbol → Rule Sort Symbol
  symbol : Symbol → Rule Sort Symbol

-- what a rule gives, where tokens and symbols give these
abbrev pub Value : {Sort Symbol : Type 0} → Type 0 → (Symbol → Type 0) → Rule Sort Symbol → Type 0
Value Token Tree (word sort) = Unit {0}
Value Token Tree (token sorts) = Token
Value Token Tree (r then s) = Value Token Tree r × Value Token Tree s
Value Token Tree (r or s) = Value Token Tree r ⊎ Value Token Tree s
Value Token Tree (front r s) = Value Token Tree r ⊎ Value Token Tree s
Value Token Tree (optional r) = Option (Value Token Tree r)
Value Token Tree (many r) = List (Value Token Tree r)
Value Token Tree (placed r) = ℕ × Value Token Tree r
Value Token Tree (symbol n) = Tree n

-- each symbol has one rule, and a tree that is built of what the rule gives
pub record Grammar : Type 1 where
  pub Token : Type 0
  pub Sort : Type 0
  pub Symbol : Type 0
  pub sort : Token → Sort
  pub offset : Token → ℕ
  pub same : Sort → Sort → Bool
  pub Tree : Symbol → Type 0
  pub body : Symbol → Rule Sort Symbol
  pub build : (n : Symbol) → Value Token Tree (body n) → Tree n

abbrev pub RuleOf : Grammar → Type 0
RuleOf g = Rule g.Sort g.Symbol

abbrev pub ValueOf : (g : Grammar) → RuleOf g → Type 0
ValueOf g r = Value g.Token g.Tree r

-- the offset of the first token, where there is one
abbrev pub StartsAt : (g : Grammar) → ℕ → List g.Token → Type 0
StartsAt g offset [] = Unit {0}
StartsAt g offset (t ∷ us) = offset ≡ g.offset t

-- the tokens spell a value by a rule
pub data Spelled (g : Grammar) : (r : Rule g.Sort g.Symbol) → List g.Token → Value g.Token g.Tree r → Type 0 where
  a_word : {sort : g.Sort} {t : g.Token} → g.sort t ≡ sort → Spelled g (word sort) (t ∷ []) tt
  a_token : {sorts : List g.Sort} {t : g.Token} → Contains sorts (g.sort t) → Spelled g (token sorts) (t ∷ []) t
  both : {r s : RuleOf g} {us vs : List g.Token} {x : ValueOf g r} {y : ValueOf g s}
      → Spelled g r us x → Spelled g s vs y → Spelled g (r then s) (us ++ vs) (x, y)
  first : {r s : RuleOf g} {us : List g.Token} {x : ValueOf g r} → Spelled g r us x → Spelled g (r or s) us (inl x)
  second : {r s : RuleOf g} {us : List g.Token} {y : ValueOf g s} → Spelled g s us y → Spelled g (r or s) us (inr y)
  front_first : {r s : RuleOf g} {us : List g.Token} {x : ValueOf g r} → Spelled g r us x → Spelled g (front r s) us (inl x)
  front_second : {r s : RuleOf g} {us : List g.Token} {y : ValueOf g s} → Spelled g s us y → Spelled g (front r s) us (inr y)
  absent : {r : RuleOf g} → Spelled g (optional r) [] None
  present : {r : RuleOf g} {us : List g.Token} {x : ValueOf g r} → Spelled g r us x → Spelled g (optional r) us (Some x)
  no_more : {r : RuleOf g} → Spelled g (many r) [] []
  one_more : {r : RuleOf g} {us vs : List g.Token} {x : ValueOf g r} {xs : List (ValueOf g r)}
      → Spelled g r us x → Spelled g (many r) vs xs → Spelled g (many r) (us ++ vs) (x ∷ xs)
  at_place : {r : RuleOf g} {offset : ℕ} {us : List g.Token} {x : ValueOf g r}
      → Spelled g r us x → StartsAt g offset us → Spelled g (placed r) us (offset, x)
  as_symbol : {n : g.Symbol} {us : List g.Token} {x : ValueOf g (g.body n)}
      → Spelled g (g.body n) us x → Spelled g (symbol n) us (g.build n x)
