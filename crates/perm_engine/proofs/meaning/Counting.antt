-- A script has no more statements than bytes, and one; so no run of a file's script wants a number.
use Rattle.std.proofs.Common.{◌≡◌, ◌≢◌, ◌⊎◌, ℕ, zero, suc, ◌+◌, ◌-◌, ◌≤◌, ◌<◌, ◌^◌, List, [], ◌∷◌, map, length, get_or, Option, Some, None, length-append, ap, inl, inr, arith}
use Rattle.std.proofs.lemmas.Bool.{cases_lt}
use Rattle.std.proofs.lemmas.List.{length-map}
use Rattle.std.proofs.lemmas.Option.{slice_get-get_or, slice_get_within}
use Rattle.std.specs.List.{slice_get}
use Rattle.perm_catalog.specs.Changes.{nothing_held}
use Rattle.perm_catalog.specs.Contents.{Contents}
use Rattle.perm_io.specs.Found.{Found}
use Rattle.sql_tree.specs.grammar.Building as b
use Rattle.sql_tree.specs.grammar.Grammar.{body, sql}
use Rattle.sql_tree.specs.grammar.Rules.{word, token, ◌then◌, ◌or◌, front, optional, many, placed, symbol, Grammar, RuleOf, ValueOf, Spelled, a_word, a_token, both, first, second, front_first, front_second, absent, present, no_more, one_more, at_place, as_symbol}
use Rattle.sql_tree.specs.grammar.Symbols as n
use Rattle.sql_tree.specs.declared.grammar.sort.Sort.TheVariants as s
use Rattle.sql_lexer.specs.Lexes.{Lexes, LexesTo, Piece, Spells, nothing, piece}
use Rattle.sql_lexer.specs.Lexes as lexing
use Rattle.sql_lexer.specs.declared.token.Token.{Token}
use Rattle.sql_lexer.specs.declared.token.TokenKind.{TokenKind}
use Rattle.sql_lexer.specs.declared.token.TokenKind.TheVariants.{Word, Quoted, Number, Text, Symbol}
use Rattle.sql_parser.specs.Spells as parsing
use Rattle.sql_tree.specs.declared.statement.Script.{Script}
use Rattle.sql_tree.specs.declared.statement.Statement.{Statement}
use Rattle.statement_meaning.specs.Asking.{asked}
use Rattle.statement_meaning.specs.declared.refusal.StepRefusal.{StepRefusal}
use Rattle.statement_meaning.specs.declared.refusal.StepRefusal.TheVariants as refusal
use Rattle.perm_engine.proofs.meaning.Firsts.{next-after, stops-first}
use Rattle.perm_engine.specs.meaning.Run.{Ran}
use Rattle.perm_engine.specs.meaning.Stops.{IsFirst, IsRefused}
use Rattle.perm_engine.specs.meaning.headline.Course.{Course}

-- ---- no more tokens than bytes

some-bytes : (kind : TokenKind) (bytes spelled : List ℕ) (number : _) → Spells kind bytes spelled number → 1 ≤ length bytes
some-bytes Word [] spelled number h = absurd h.0
some-bytes Word (x ∷ xs) spelled number h = omega arith
some-bytes Quoted [] spelled number h = absurd (cc h.0)
some-bytes Quoted (x ∷ xs) spelled number h = omega arith
some-bytes Number [] spelled number h = absurd h.0
some-bytes Number (x ∷ xs) spelled number h = omega arith
some-bytes Text [] spelled number h = absurd (cc h.0)
some-bytes Text (x ∷ xs) spelled number h = omega arith
some-bytes Symbol [] spelled number h = absurd (cc h.0)
some-bytes Symbol (x ∷ xs) spelled number h = omega arith

one-token : {at : ℕ} {bytes rest : List ℕ} {found : List Token} → Piece at bytes rest found → length found ≤ length bytes
one-token (lexing.blank e) = omega arith
one-token (lexing.comment e f) = omega arith
one-token (lexing.token {bytes = bytes} {token = t} is e) = let some = some-bytes t.kind bytes t.spelled t.number is.spells in omega (arith, some)

tokens-to : {at stop : ℕ} {text rest : List ℕ} {tokens : List Token} → LexesTo at text tokens stop rest → at + length tokens ≤ stop
tokens-to nothing = omega arith
tokens-to (piece {bytes = bytes} {found = found} {tokens = tokens} e p l) =
    let here = one-token p in
    let more = tokens-to l in
    omega (arith, here, more, length-append found tokens)

pub tokens-few : (bytes : List ℕ) (tokens : List Token) → Lexes bytes tokens → length tokens ≤ length bytes
tokens-few bytes tokens h = let all = tokens-to h.whole in omega (arith, all)

-- ---- no more statements than tokens, and one

abbrev total : {X : Type 0} → (X → ℕ) → List X → ℕ
total f [] = 0
total f (x ∷ xs) = f x + total f xs

module _ (g : Grammar) (weigh : (n : g.Symbol) → g.Tree n → ℕ) where
  -- the words and tokens of what a rule gives, and what its symbols weigh
  abbrev words : (r : RuleOf g) → ValueOf g r → ℕ
  words (word sort) v = 1
  words (token sorts) t = 1
  words (r then s) v = words r v.0 + words s v.1
  words (r or s) (inl x) = words r x
  words (r or s) (inr y) = words s y
  words (front r s) (inl x) = words r x
  words (front r s) (inr y) = words s y
  words (optional r) None = 0
  words (optional r) (Some x) = words r x
  words (many r) xs = total (words r) xs
  words (placed r) v = words r v.1
  words (symbol n) x = weigh n x

  abbrev Weighs : g.Symbol → Type 0
  Weighs n = (x : ValueOf g (g.body n)) → weigh n (g.build n x) ≤ words (g.body n) x

  words-within : ((n : g.Symbol) → Weighs n) → {r : RuleOf g} {ts : List g.Token} {x : ValueOf g r} → Spelled g r ts x → words r x ≤ length ts
  words-within weighs (a_word {sort = sort} e) = omega arith
  words-within weighs (a_token {t = t} c) = omega arith
  words-within weighs (both {us = us} {vs = vs} a b) =
      let one = words-within weighs a in
      let other = words-within weighs b in
      omega (arith, one, other, length-append us vs)
  words-within weighs (first a) = words-within weighs a
  words-within weighs (second b) = words-within weighs b
  words-within weighs (front_first a) = words-within weighs a
  words-within weighs (front_second b) = words-within weighs b
  words-within weighs absent = omega arith
  words-within weighs (present a) = words-within weighs a
  words-within weighs (no_more {r = r}) = omega arith
  words-within weighs (one_more {r = r} {us = us} {vs = vs} {x = x} {xs = xs} a b) =
      let one = words-within weighs a in
      let more = words-within weighs b in
      omega (arith, one, more, length-append us vs)
  words-within weighs (at_place a s) = words-within weighs a
  words-within weighs (as_symbol {n = n} {x = x} a) = let within = words-within weighs a in omega (arith, within, weighs n x)

-- a script weighs its statements but one, and nothing else anything
abbrev weight : (symbol : n.Symbol) → n.Tree symbol → ℕ
weight n.ScriptOf script = length script.statements - 1
weight other tree = 0

few-present : {X : Type 0} (os : List (Option X)) → length (b.present os) ≤ length os
few-present [] = omega arith
few-present (None ∷ os) = let few = few-present os in omega (arith, few)
few-present (Some x ∷ os) = let few = few-present os in omega (arith, few)

total-some : {X : Type 0} (f : X → ℕ) → ((x : X) → 1 ≤ f x) → (xs : List X) → length xs ≤ total f xs
total-some f some [] = omega arith
total-some f some (x ∷ xs) = let here = some x in let more = total-some f some xs in omega (arith, here, more)

zero-least : (n : ℕ) → 0 ≤ n
zero-least n = omega arith

-- behind the first statement each stands behind a semicolon
script-weighs : Weighs sql weight n.ScriptOf
script-weighs (front_one, more) =
    let statements : List (Option Statement) = map (λ (m : Unit {0} × Option Statement). m.1) more in
    let few = few-present (front_one ∷ statements) in
    let some = total-some (words sql weight (word s.Semicolon then optional (symbol n.StatementOf))) (λ m. omega arith) more in
    let all : length statements ≡ length more = length-map more (λ (m : Unit {0} × Option Statement). m.1) in
    omega (arith, few, some, all)

all-weigh : (symbol : n.Symbol) → Weighs sql weight symbol
all-weigh n.ScriptOf x = script-weighs x
all-weigh other x = zero-least (words sql weight (body other) x)

pub statements-few : (tokens : List Token) (script : Script) → parsing.Spells tokens script → length script.statements ≤ length tokens + 1
statements-few tokens script h = let within = words-within sql weight all-weigh h in omega (arith, within)

-- ---- numbers drawn along a run

module _ (Can : List ℕ → Found → Type 0) (statements : List Statement) (ran : Ran) (met : Course Can (nothing_held 1) statements ran) where
  next-one : (k : ℕ) (text : List ℕ) → slice_get ran.texts k ≡ Some text → (met.left (suc k)).next ≤ (met.left k).next + 1
  next-one k text e = let a = met.accepted k text e in next-after Can (met.left k) (met.left (suc k)) a.statement text a.turn

  next-at : (k : ℕ) → k ≤ length ran.texts → (met.left k).next ≤ k + 1
  next-at zero within = omega (arith, ap (λ (c : Contents). c.next) met.first)
  next-at (suc k) within =
      let before = next-at k (omega (arith, within)) in
      let drawn = next-one k (get_or ran.texts k []) (slice_get-get_or ran.texts k [] (omega (arith, within))) in
      omega (arith, before, drawn)

  -- no more texts than statements
  texts-few : length ran.texts ≤ length statements
  texts-few = chosen (cases_lt (length statements) (length ran.texts)) where
    chosen : (length statements < length ran.texts) ⊎ (length ran.texts ≤ length statements) → length ran.texts ≤ length statements
    chosen (inr few) = few
    chosen (inl more) =
        let e = slice_get-get_or ran.texts (length statements) [] more in
        let a = met.accepted (length statements) (get_or ran.texts (length statements) []) e in
        let beyond = slice_get_within statements (length statements) a.statement a.met in
        absurd (omega (arith, beyond))

  -- a break by which the run ends is the first of its statement, and no want of a number
  pub first-cause : length statements < 2 ^ 64 - 2 → (statement : Statement) (refused : StepRefusal) → refused ≢ refusal.NoMemory
      → IsRefused Can (asked (met.left (length ran.texts)) statement) refused → IsFirst (met.left (length ran.texts)) statement refused
  first-cause few statement refused told turn =
      let drawn = next-at (length ran.texts) (omega arith) in
      stops-first Can (met.left (length ran.texts)) statement refused (omega (arith, drawn, texts-few, few)) told turn
