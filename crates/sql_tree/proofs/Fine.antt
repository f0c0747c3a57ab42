-- Grammars that the next token decides.
use Rattle.std.proofs.Common.{◌≡◌, suc, ◌+◌, Bool, true, false, not, ◌&&◌, ◌||◌, cond, List, [], ◌∷◌, ◌++◌, length, refl, sym, subst, ◌∙◌}
use Rattle.std.specs.List.{list_any, list_all}
use Rattle.sql_tree.specs.grammar.Rules.{Rule, word, token, ◌then◌, ◌or◌, front, optional, many, placed, symbol, Grammar, RuleOf}
use Rattle.sql_tree.specs.grammar.Descent.{Parsed, Taken, Stopped, Tables, nullable, starts, next_is, begins_with, start_of, fronts, step, read}
use Rattle.sql_tree.proofs.Sound.{IsTold}
use Rattle.sql_tree.proofs.Begins.{both_true, has}

-- the sorts of the last of some tokens, where there is one behind a first
abbrev pub last_of : {Sort : Type 0} → List Sort → List (List Sort) → List Sort
last_of sorts [] = sorts
last_of sorts (next ∷ more) = last_of next more

-- the sorts with which what a rule spelled may go on
abbrev pub extends : {Sort Symbol : Type 0} → (Symbol → Bool) → (Symbol → List Sort) → (Symbol → List Sort) → Rule Sort Symbol → List Sort
extends empty begins goes_on (word sort) = []
extends empty begins goes_on (token sorts) = []
extends empty begins goes_on (r then s) = extends empty begins goes_on s ++ cond (nullable empty s) (extends empty begins goes_on r) []
extends empty begins goes_on (r or s) =
    extends empty begins goes_on r ++ extends empty begins goes_on s ++ cond (nullable empty s) (starts empty begins r) []
extends empty begins goes_on (front r s) =
    extends empty begins goes_on r ++ extends empty begins goes_on s ++ last_of [] (fronts r)
extends empty begins goes_on (optional r) = starts empty begins r ++ extends empty begins goes_on r
extends empty begins goes_on (many r) = starts empty begins r ++ extends empty begins goes_on r
extends empty begins goes_on (placed r) = extends empty begins goes_on r
extends empty begins goes_on (symbol n) = goes_on n

-- no sort is in both
abbrev pub apart : {Sort : Type 0} → (Sort → Sort → Bool) → List Sort → List Sort → Bool
apart same xs ys = list_all (λ x. not (list_any (same x) ys)) xs

module _ (g : Grammar) (tables : Tables g) (goes_on : g.Symbol → List g.Sort) where
  abbrev pub extends_of : RuleOf g → List g.Sort
  extends_of r = extends tables.empty tables.begins goes_on r

  -- reading ends before the last of the tokens that are of these sorts
  abbrev pub EndsBefore : {X : Type 0} → List (List g.Sort) → List g.Token → Parsed g.Token X → Type 0
  EndsBefore sorts ts (Stopped rest) = length rest + length sorts ≡ suc (length ts)
  EndsBefore sorts ts (Taken x rest) = (length rest + length sorts ≡ suc (length ts)) × (next_is g tables (last_of [] sorts) rest ≡ true)

  -- where the tokens begin with those at the front of the first rule, the other ends before the last of these
  abbrev pub IsShut : RuleOf g → RuleOf g → Type 0
  IsShut r s = (ts : List g.Token) → begins_with g tables (fronts r) ts ≡ true → EndsBefore (fronts r) ts (step g tables (read g tables) s ts)

  -- the next token decides each choice, and whether to go on
  abbrev pub IsFine : RuleOf g → Type 0
  IsFine (word sort) = Unit {0}
  IsFine (token sorts) = Unit {0}
  IsFine (r then s) = IsFine r × IsFine s × (apart g.same (extends_of r) (start_of g tables s) ≡ true)
  IsFine (r or s) = IsFine r × IsFine s × (nullable tables.empty r ≡ false) × (apart g.same (start_of g tables r) (start_of g tables s) ≡ true)
  IsFine (front r s) = IsFine r × IsFine s × IsShut r s
  IsFine (optional r) = IsFine r × (nullable tables.empty r ≡ false)
  IsFine (many r) = IsFine r × (nullable tables.empty r ≡ false) × (apart g.same (extends_of r) (start_of g tables r) ≡ true)
  IsFine (placed r) = IsFine r × (nullable tables.empty r ≡ false)
  IsFine (symbol n) = Unit {0}

  -- the same as a test, but for `front`
  abbrev pub is_fine : RuleOf g → Bool
  is_fine (word sort) = true
  is_fine (token sorts) = true
  is_fine (r then s) = is_fine r && is_fine s && apart g.same (extends_of r) (start_of g tables s)
  is_fine (r or s) = is_fine r && is_fine s && not (nullable tables.empty r) && apart g.same (start_of g tables r) (start_of g tables s)
  is_fine (front r s) = false
  is_fine (optional r) = is_fine r && not (nullable tables.empty r)
  is_fine (many r) = is_fine r && not (nullable tables.empty r) && apart g.same (extends_of r) (start_of g tables r)
  is_fine (placed r) = is_fine r && not (nullable tables.empty r)
  is_fine (symbol n) = true

  not_true : (b : Bool) → not b ≡ true → b ≡ false
  not_true true e = absurd cc
  not_true false e = refl

  pub fine : (r : RuleOf g) → is_fine r ≡ true → IsFine r
  fine (word sort) e = tt
  fine (token sorts) e = tt
  fine (r then s) e =
      let a = both_true e in
      let b = both_true a.0 in
      (fine r b.0, fine s b.1, a.1)
  fine (r or s) e =
      let a = both_true e in
      let b = both_true a.0 in
      let c = both_true b.0 in
      (fine r c.0, fine s c.1, not_true (nullable tables.empty r) b.1, a.1)
  fine (front r s) e = absurd cc
  fine (optional r) e = let a = both_true e in (fine r a.0, not_true (nullable tables.empty r) a.1)
  fine (many r) e =
      let a = both_true e in
      let b = both_true a.0 in
      (fine r b.0, not_true (nullable tables.empty r) b.1, a.1)
  fine (placed r) e = let a = both_true e in (fine r a.0, not_true (nullable tables.empty r) a.1)
  fine (symbol n) e = tt

-- what is apart isn't met in both
pub apart-law : (g : Grammar) (tables : Tables g) (told : IsTold g) (xs ys : List g.Sort) (t : g.Token)
    → apart g.same xs ys ≡ true → has g tables ys t ≡ true → has g tables xs t ≡ false
apart-law g tables told [] ys t e h = refl
apart-law g tables told (x ∷ xs) ys t e h = by_test (g.same (g.sort t) x) refl (apart-law g tables told xs ys t (parts.1) h) where
  parts : (not (list_any (g.same x) ys) ≡ true) × (apart g.same xs ys ≡ true)
  parts = both_true e

  by_test : (b : Bool) → g.same (g.sort t) x ≡ b → list_any (g.same (g.sort t)) xs ≡ false → b || list_any (g.same (g.sort t)) xs ≡ false
  by_test false f others = others
  by_test true f others =
      let there : list_any (g.same x) ys ≡ true = subst (λ sort. list_any (g.same sort) ys ≡ true) (told.sound (g.sort t) x f) h in
      let no : not true ≡ true = subst (λ b. not b ≡ true) there parts.0 in
      absurd cc

-- each sort of the one is in the other
abbrev pub within : {Sort : Type 0} → (Sort → Sort → Bool) → List Sort → List Sort → Bool
within same xs ys = list_all (λ x. list_any (same x) ys) xs

pub within-law : (g : Grammar) (tables : Tables g) (told : IsTold g) (xs ys : List g.Sort) (t : g.Token)
    → within g.same xs ys ≡ true → has g tables ys t ≡ false → has g tables xs t ≡ false
within-law g tables told [] ys t e h = refl
within-law g tables told (x ∷ xs) ys t e h = by_test (g.same (g.sort t) x) refl (within-law g tables told xs ys t (parts.1) h) where
  parts : (list_any (g.same x) ys ≡ true) × (within g.same xs ys ≡ true)
  parts = both_true e

  by_test : (b : Bool) → g.same (g.sort t) x ≡ b → list_any (g.same (g.sort t)) xs ≡ false → b || list_any (g.same (g.sort t)) xs ≡ false
  by_test false f others = others
  by_test true f others =
      let there : list_any (g.same x) ys ≡ false = subst (λ sort. list_any (g.same sort) ys ≡ false) (told.sound (g.sort t) x f) h in
      let no : true ≡ false = sym parts.0 ∙ there in
      absurd cc
