-- Which sorts begin what a rule spells, and what it takes at least.
use Rattle.std.proofs.Common.{◌≡◌, Bool, true, false, ◌&&◌, ◌||◌, List, [], ◌∷◌, ◌++◌, refl, sym, ◌∙◌}
use Rattle.std.specs.Cmp.{IsEquivalence}
use Rattle.std.specs.List.{list_any}
use Rattle.std.proofs.lemmas.Bool.{or_right}
use Rattle.std.proofs.lemmas.Map.Views.{list_any-from_Contains}
use Rattle.sql_tree.specs.grammar.Rules.{◌then◌, ◌or◌, optional, many, placed, symbol, Grammar, RuleOf, ValueOf, Spelled, a_word, a_token, both, first, second, front_first, front_second, absent, present, no_more, one_more, at_place, as_symbol}
use Rattle.sql_tree.specs.grammar.Descent.{Tables, nullable, starts}

-- ---- tests and lists

pub both_true : {a b : Bool} → a && b ≡ true → (a ≡ true) × (b ≡ true)
both_true {a} {b} e = go a b e where
  go : (a b : Bool) → a && b ≡ true → (a ≡ true) × (b ≡ true)
  go true b e = (refl, e)
  go false b e = absurd cc

pub or_left : {a : Bool} (b : Bool) → a ≡ true → a || b ≡ true
or_left b e = rw e refl

any_step : (b c d : Bool) → (c ≡ true → d ≡ true) → b || c ≡ true → b || d ≡ true
any_step true c d onward e = refl
any_step false c d onward e = onward e

pub any-left : {X : Type 0} (p : X → Bool) (xs ys : List X) → list_any p xs ≡ true → list_any p (xs ++ ys) ≡ true
any-left p [] ys e = absurd cc
any-left p (x ∷ xs) ys e = any_step (p x) (list_any p xs) (list_any p (xs ++ ys)) (any-left p xs ys) e

pub any-right : {X : Type 0} (p : X → Bool) (xs ys : List X) → list_any p ys ≡ true → list_any p (xs ++ ys) ≡ true
any-right p [] ys e = e
any-right p (x ∷ xs) ys e = or_right (p x) (list_any p (xs ++ ys)) (any-right p xs ys e)

pub none-left : {X : Type 0} (p : X → Bool) (xs ys : List X) → list_any p (xs ++ ys) ≡ false → list_any p xs ≡ false
none-left p xs ys e = by_test (list_any p xs) refl where
  by_test : (b : Bool) → list_any p xs ≡ b → b ≡ false
  by_test false f = refl
  by_test true f = let g : true ≡ false = sym (any-left p xs ys f) ∙ e in absurd cc

pub none-right : {X : Type 0} (p : X → Bool) (xs ys : List X) → list_any p (xs ++ ys) ≡ false → list_any p ys ≡ false
none-right p xs ys e = by_test (list_any p ys) refl where
  by_test : (b : Bool) → list_any p ys ≡ b → b ≡ false
  by_test false f = refl
  by_test true f = let g : true ≡ false = sym (any-right p xs ys f) ∙ e in absurd cc

module _ (g : Grammar) (tables : Tables g) where
  -- whether a token is of one of these sorts
  abbrev pub has : List g.Sort → g.Token → Bool
  has sorts t = list_any (g.same (g.sort t)) sorts

  abbrev pub empty_by : RuleOf g → Bool
  empty_by r = nullable tables.empty r

  abbrev pub starts_of : RuleOf g → List g.Sort
  starts_of r = starts tables.empty tables.begins r

  -- what the tables say of each symbol is so of its rule
  pub record HasBegins : Type 0 where
    pub same : IsEquivalence g.same
    pub empty : (n : g.Symbol) → empty_by (g.body n) ≡ true → tables.empty n ≡ true
    pub begins : (n : g.Symbol) (t : g.Token) → has (starts_of (g.body n)) t ≡ true → has (tables.begins n) t ≡ true

  -- the tokens begin as the rule may: with none, or with one of its sorts
  abbrev pub Begins : RuleOf g → List g.Token → Type 0
  Begins r [] = empty_by r ≡ true
  Begins r (t ∷ us) = has (starts_of r) t ≡ true

  both-begin : (r s : RuleOf g) (us vs : List g.Token) → Begins r us → Begins s vs → Begins (r then s) (us ++ vs)
  both-begin r s [] [] a b = rw (a, b) refl
  both-begin r s [] (t ∷ vs) a b = any-right (g.same (g.sort t)) (starts_of r) _ (rw a b)
  both-begin r s (t ∷ us) vs a b = any-left (g.same (g.sort t)) (starts_of r) _ a

  first-begins : (r s : RuleOf g) (us : List g.Token) → Begins r us → Begins (r or s) us
  first-begins r s [] a = or_left (empty_by s) a
  first-begins r s (t ∷ us) a = any-left (g.same (g.sort t)) (starts_of r) (starts_of s) a

  second-begins : (r s : RuleOf g) (us : List g.Token) → Begins s us → Begins (r or s) us
  second-begins r s [] a = or_right (empty_by r) (empty_by s) a
  second-begins r s (t ∷ us) a = any-right (g.same (g.sort t)) (starts_of r) (starts_of s) a

  present-begins : (r : RuleOf g) (us : List g.Token) → Begins r us → Begins (optional r) us
  present-begins r [] a = refl
  present-begins r (t ∷ us) a = a

  more-begins : (r : RuleOf g) (us vs : List g.Token) → Begins r us → Begins (many r) vs → Begins (many r) (us ++ vs)
  more-begins r [] vs a b = b
  more-begins r (t ∷ us) vs a b = a

  placed-begins : (r : RuleOf g) (us : List g.Token) → Begins r us → Begins (placed r) us
  placed-begins r [] a = a
  placed-begins r (t ∷ us) a = a

  symbol-begins : HasBegins → (n : g.Symbol) (us : List g.Token) → Begins (g.body n) us → Begins (symbol n) us
  symbol-begins h n [] a = h.empty n a
  symbol-begins h n (t ∷ us) a = h.begins n t a

  pub begins : HasBegins → {r : RuleOf g} {us : List g.Token} {x : ValueOf g r} → Spelled g r us x → Begins r us
  begins h (a_word {sort = sort} {t = t} e) = rw e (or_left false (h.same.refl sort))
  begins h (a_token {sorts = sorts} {t = t} c) = list_any-from_Contains h.same (g.sort t) sorts c
  begins h (both {r = r} {s = s} {us = us} {vs = vs} a b) = both-begin r s us vs (begins h a) (begins h b)
  begins h (first {r = r} {s = s} {us = us} a) = first-begins r s us (begins h a)
  begins h (second {r = r} {s = s} {us = us} a) = second-begins r s us (begins h a)
  begins h (front_first {r = r} {s = s} {us = us} a) = first-begins r s us (begins h a)
  begins h (front_second {r = r} {s = s} {us = us} a) = second-begins r s us (begins h a)
  begins h absent = refl
  begins h (present {r = r} {us = us} a) = present-begins r us (begins h a)
  begins h no_more = refl
  begins h (one_more {r = r} {us = us} {vs = vs} a b) = more-begins r us vs (begins h a) (begins h b)
  begins h (at_place {r = r} {us = us} a c) = placed-begins r us (begins h a)
  begins h (as_symbol {n = n} {us = us} a) = symbol-begins h n us (begins h a)
