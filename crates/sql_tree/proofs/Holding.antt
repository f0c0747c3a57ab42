-- What is so of all tokens and all trees that are built of such parts, is so of what tokens spell.
use Rattle.std.proofs.Common.{◌≡◌, inl, inr, ℕ, zero, suc, List, [], ◌∷◌, ◌++◌, length, Some, None, refl, subst, arith}
use Rattle.std.specs.Prelude.{Contains, ◌<◌, slice_index_or}
use Rattle.std.proofs.lemmas.List.Elements.{Contains-append_left, Contains-append_right}
use Rattle.sql_tree.specs.grammar.Rules.{word, token, ◌then◌, ◌or◌, front, optional, many, placed, symbol, Grammar, RuleOf, ValueOf, Spelled, a_word, a_token, both, first, second, front_first, front_second, absent, present, no_more, one_more, at_place, as_symbol}
use Rattle.sql_tree.specs.Regular.{Each, IfThere}

-- ---- each element of a list

none-below : (k : ℕ) → k < 0 → ⊥
none-below k below = omega arith

pub none-each : {X : Type 0} (P : X → Type 0) → Each P []
none-each P x c = absurd (none-below c.0 c.1)

cons-at : {X : Type 0} (P : X → Type 0) (x : X) (xs : List X) → P x → Each P xs
    → (z : X) (k : ℕ) → k < length (x ∷ xs) → slice_index_or (x ∷ xs) k z ≡ z → P z
cons-at P x xs p each z zero below same = subst P same p
cons-at P x xs p each z (suc k) below same = each z (k, omega arith, same)

pub cons-each : {X : Type 0} (P : X → Type 0) (x : X) (xs : List X) → P x → Each P xs → Each P (x ∷ xs)
cons-each P x xs p each z c = cons-at P x xs p each z c.0 c.1 c.2

pub head-of : {X : Type 0} (P : X → Type 0) (x : X) (xs : List X) → Each P (x ∷ xs) → P x
head-of P x xs each = each x (0, omega arith, refl)

pub tail-of : {X : Type 0} (P : X → Type 0) (x : X) (xs : List X) → Each P (x ∷ xs) → Each P xs
tail-of P x xs each z c = each z (Contains-append_right (x ∷ []) xs z c)

pub append-each : {X : Type 0} (P : X → Type 0) (xs ys : List X) → Each P xs → Each P ys → Each P (xs ++ ys)
append-each P [] ys a b = b
append-each P (x ∷ xs) ys a b = cons-each P x (xs ++ ys) (head-of P x xs a) (append-each P xs ys (tail-of P x xs a) b)

-- ---- what may be there

pub none-there : {X : Type 0} (P : X → Type 0) → IfThere P None
none-there P x e = absurd cc

some-at : {X : Type 0} (P : X → Type 0) (x z : X) → P x → Some x ≡ Some z → P z
some-at P x z p e = let same : x ≡ z = cc in subst P same p

pub some-there : {X : Type 0} (P : X → Type 0) (x : X) → P x → IfThere P (Some x)
some-there P x p z e = some-at P x z p e

-- ---- rules

module _ (g : Grammar) (Fair : g.Token → Type 0) (Good : (n : g.Symbol) → g.Tree n → Type 0) where
  -- all tokens are fair ones of the sorts that the rule names, and all trees are good
  abbrev pub Holds : (r : RuleOf g) → ValueOf g r → Type 0
  Holds (word sort) v = Unit {0}
  Holds (token sorts) t = Contains sorts (g.sort t) × Fair t
  Holds (r then s) v = Holds r v.0 × Holds s v.1
  Holds (r or s) (inl x) = Holds r x
  Holds (r or s) (inr y) = Holds s y
  Holds (front r s) (inl x) = Holds r x
  Holds (front r s) (inr y) = Holds s y
  Holds (optional r) None = Unit {0}
  Holds (optional r) (Some x) = Holds r x
  Holds (many r) xs = Each (Holds r) xs
  Holds (placed r) v = Holds r v.1
  Holds (symbol n) x = Good n x

  -- what is built of parts that are good is good
  abbrev pub Builds : g.Symbol → Type 0
  Builds n = (x : ValueOf g (g.body n)) → Holds (g.body n) x → Good n (g.build n x)

  front-of : (us vs : List g.Token) → Each Fair (us ++ vs) → Each Fair us
  front-of us vs each t c = each t (Contains-append_left us vs t c)

  rest-of : (us vs : List g.Token) → Each Fair (us ++ vs) → Each Fair vs
  rest-of us vs each t c = each t (Contains-append_right us vs t c)

  pub spelled-holds : ((n : g.Symbol) → Builds n) → {r : RuleOf g} {ts : List g.Token} {x : ValueOf g r}
      → Each Fair ts → Spelled g r ts x → Holds r x
  spelled-holds builds fair (a_word {sort = sort} e) = tt
  spelled-holds builds fair (a_token {t = t} c) = (c, head-of Fair t [] fair)
  spelled-holds builds fair (both {us = us} {vs = vs} a b) = (spelled-holds builds (front-of us vs fair) a, spelled-holds builds (rest-of us vs fair) b)
  spelled-holds builds fair (first a) = spelled-holds builds fair a
  spelled-holds builds fair (second b) = spelled-holds builds fair b
  spelled-holds builds fair (front_first a) = spelled-holds builds fair a
  spelled-holds builds fair (front_second b) = spelled-holds builds fair b
  spelled-holds builds fair absent = tt
  spelled-holds builds fair (present a) = spelled-holds builds fair a
  spelled-holds builds fair (no_more {r = r}) = none-each (Holds r)
  spelled-holds builds fair (one_more {r = r} {us = us} {vs = vs} {x = x} {xs = xs} a b) = cons-each (Holds r) x xs (spelled-holds builds (front-of us vs fair) a) (spelled-holds builds (rest-of us vs fair) b)
  spelled-holds builds fair (at_place a s) = spelled-holds builds fair a
  spelled-holds builds fair (as_symbol {n = n} {x = x} a) = builds n x (spelled-holds builds fair a)
