-- Plans of what is printed: how a rule of the grammar is spelled. A plan says which alternative is taken, and which token
-- stands where the rule leaves a choice. Its tokens, its text and the tree that it spells are functions of it.
use Rattle.std.specs.Prelude.{◌≡◌, ℕ, ◌+◌, true, List, [], ◌∷◌, ◌++◌, length, Some, None}
use Rattle.std.proofs.Common.{inl, inr}
use Rattle.sql_lexer.specs.declared.token.Token.{Token}
use Rattle.sql_lexer.specs.Printing.{spelling, at_place, IsSpellable}
use Rattle.sql_tree.specs.grammar.Grammar.{SqlRule, Given, body, build}
use Rattle.sql_tree.specs.grammar.Rules.{word, token, ◌then◌, ◌or◌, front, optional, many, placed, symbol}
use Rattle.sql_tree.specs.grammar.Sorts.{sort_of}
use Rattle.sql_tree.specs.grammar.Symbols.{Symbol}
use Rattle.sql_tree.specs.declared.grammar.sort.Sort.{Sort}
use Rattle.tree_texts.specs.plans.Blanks.{Blank, blank_value}
use Rattle.tree_texts.specs.plans.Written.{is_written, token_for}

-- a sort is one of some sorts
pub data OneOf : List Sort → Sort → Type 0 where
  here : {sort : Sort} {sorts : List Sort} → OneOf (sort ∷ sorts) sort
  there : {sort other : Sort} {sorts : List Sort} → OneOf sorts sort → OneOf (other ∷ sorts) sort

pub data Plan : SqlRule → Type 0 where
  a_word : {sort : Sort} → is_written sort ≡ true → Plan (word sort)
  -- one of several sorts that are each written in one way
  a_choice : {sorts : List Sort} {sort : Sort} → is_written sort ≡ true → OneOf sorts sort → Plan (token sorts)
  a_token : {sorts : List Sort} (t : Token) → OneOf sorts (sort_of t) → Plan (token sorts)
  both : {r s : SqlRule} → Plan r → Plan s → Plan (r then s)
  -- one of the two spells nothing
  before : {r s : SqlRule} → Plan r → Blank s → Plan (r then s)
  behind : {r s : SqlRule} → Blank r → Plan s → Plan (r then s)
  first : {r s : SqlRule} → Plan r → Plan (r or s)
  second : {r s : SqlRule} → Plan s → Plan (r or s)
  front_first : {r s : SqlRule} → Plan r → Plan (front r s)
  front_second : {r s : SqlRule} → Plan s → Plan (front r s)
  absent : {r : SqlRule} → Plan (optional r)
  present : {r : SqlRule} → Plan r → Plan (optional r)
  no_more : {r : SqlRule} → Plan (many r)
  one_more : {r : SqlRule} → Plan r → Plan (many r) → Plan (many r)
  -- the last of many
  one_last : {r : SqlRule} → Plan r → Plan (many r)
  at_start : {r : SqlRule} → Plan r → Plan (placed r)
  as_symbol : {n : Symbol} → Plan (body n) → Plan (symbol n)

-- the tokens in order; where they stand is told by the text
abbrev pub tokens_of : {rule : SqlRule} → Plan rule → List Token
tokens_of (a_word {sort = sort} written) = token_for sort ∷ []
tokens_of (a_choice {sort = sort} written is) = token_for sort ∷ []
tokens_of (a_token t is) = t ∷ []
tokens_of (both p q) = tokens_of p ++ tokens_of q
tokens_of (before p b) = tokens_of p
tokens_of (behind b p) = tokens_of p
tokens_of (first p) = tokens_of p
tokens_of (second p) = tokens_of p
tokens_of (front_first p) = tokens_of p
tokens_of (front_second p) = tokens_of p
tokens_of absent = []
tokens_of (present p) = tokens_of p
tokens_of no_more = []
tokens_of (one_more p q) = tokens_of p ++ tokens_of q
tokens_of (one_last p) = tokens_of p
tokens_of (at_start p) = tokens_of p
tokens_of (as_symbol p) = tokens_of p

-- a token's bytes, and a space behind them
abbrev pub printed : Token → List ℕ
printed t = spelling t ++ 32 ∷ []

-- the bytes that are printed
abbrev pub text_of : {rule : SqlRule} → Plan rule → List ℕ
text_of (a_word {sort = sort} written) = printed (token_for sort)
text_of (a_choice {sort = sort} written is) = printed (token_for sort)
text_of (a_token t is) = printed t
text_of (both p q) = text_of p ++ text_of q
text_of (before p b) = text_of p
text_of (behind b p) = text_of p
text_of (first p) = text_of p
text_of (second p) = text_of p
text_of (front_first p) = text_of p
text_of (front_second p) = text_of p
text_of absent = []
text_of (present p) = text_of p
text_of no_more = []
text_of (one_more p q) = text_of p ++ text_of q
text_of (one_last p) = text_of p
text_of (at_start p) = text_of p
text_of (as_symbol p) = text_of p

-- what the rule gives, where the text stands at a place
abbrev pub value : ℕ → {rule : SqlRule} → Plan rule → Given rule
value at (a_word written) = tt
value at (a_choice {sort = sort} written is) = at_place at (token_for sort)
value at (a_token t is) = at_place at t
value at (both p q) = (value at p, value (at + length (text_of p)) q)
value at (before p b) = (value at p, blank_value b)
value at (behind b p) = (blank_value b, value at p)
value at (first p) = inl (value at p)
value at (second p) = inr (value at p)
value at (front_first p) = inl (value at p)
value at (front_second p) = inr (value at p)
value at absent = None
value at (present p) = Some (value at p)
value at no_more = []
value at (one_more p q) = value at p ∷ value (at + length (text_of p)) q
value at (one_last p) = value at p ∷ []
value at (at_start p) = (at, value at p)
value at (as_symbol {n = n} p) = build n (value at p)

-- each token that the plan chooses can be written
abbrev pub Told : {rule : SqlRule} → Plan rule → Type 0
Told (a_word written) = Unit {0}
Told (a_choice written is) = Unit {0}
Told (a_token t is) = IsSpellable t
Told (both p q) = Told p × Told q
Told (before p b) = Told p
Told (behind b p) = Told p
Told (first p) = Told p
Told (second p) = Told p
Told (front_first p) = Told p
Told (front_second p) = Told p
Told absent = Unit {0}
Told (present p) = Told p
Told no_more = Unit {0}
Told (one_more p q) = Told p × Told q
Told (one_last p) = Told p
Told (at_start p) = Told p
Told (as_symbol p) = Told p
