-- What stands between parentheses, as its function reads it.
use Rattle.std.proofs.Common.{◌≡◌, ◌⊎◌, Bool, true, false, cond, List, inl, inr, refl, ap}
use Rattle.sql_lexer.specs.declared.token.Token.{Token}
use Rattle.sql_tree.specs.grammar.Building.{Word}
use Rattle.sql_tree.specs.grammar.Cursors.{past}
use Rattle.sql_tree.specs.grammar.Descent.{Parsed, Taken, Stopped, and_then, mapped}
use Rattle.sql_tree.specs.declared.grammar.sort.Sort.TheVariants as s

-- an outcome between a word and another
abbrev pub closed : {X : Type 0} → Parsed Token Word → (List Token → Parsed Token X) → Parsed Token (Word × (X × Word))
closed o x = and_then o (λ w first. mapped (λ y. (w, y)) (and_then (x first) (λ v rest. mapped (λ z. (v, z)) (past s.Closing rest))))

pub between_is : {X Y : Type 0} (f : Word × (X × Word) → Y) (g : X → Y) → ((x : X) → f (tt, (x, tt)) ≡ g x)
    → (o : Parsed Token Word) (x : List Token → Parsed Token X)
    → mapped f (closed o x) ≡ mapped g (and_then o (λ opening first. and_then (x first) (λ v rest. mapped (λ closing. v) (past s.Closing rest))))
between_is f g e (Stopped rest) x = refl
between_is {X = X} f g e (Taken tt first) x = by_inside (x first) where
  by_end : (v : X) (p : Parsed Token Word) → mapped f (mapped (λ y. (tt, y)) (mapped (λ z. (v, z)) p)) ≡ mapped g (mapped (λ closing. v) p)
  by_end v (Stopped rest) = refl
  by_end v (Taken tt rest) = ap (λ y. Taken y rest) (e v)

  by_inside : (p : Parsed Token X)
      → mapped f (mapped (λ y. (tt, y)) (and_then p (λ v rest. mapped (λ z. (v, z)) (past s.Closing rest))))
      ≡ mapped g (and_then p (λ v rest. mapped (λ closing. v) (past s.Closing rest)))
  by_inside (Stopped rest) = refl
  by_inside (Taken v rest) = by_end v (past s.Closing rest)

-- one of two between parentheses
pub choice_between : {X Y Z : Type 0} (f : Word × ((X ⊎ Y) × Word) → Z) (g : X → Z) (h : Y → Z)
    → ((x : X) → f (tt, (inl x, tt)) ≡ g x) → ((y : Y) → f (tt, (inr y, tt)) ≡ h y)
    → (o : Parsed Token Word) (c : List Token → Bool) (x : List Token → Parsed Token X) (y : List Token → Parsed Token Y)
    → mapped f (closed o (λ first. cond (c first) (mapped inl (x first)) (mapped inr (y first))))
    ≡ and_then o (λ opening first. and_then (cond (c first) (mapped g (x first)) (mapped h (y first))) (λ v rest. mapped (λ closing. v) (past s.Closing rest)))
choice_between f g h d e (Stopped rest) c x y = refl
choice_between {X = X} {Y = Y} f g h d e (Taken tt first) c x y = by_test (c first) (x first) (y first) where
  by_left : (v : X) (p : Parsed Token Word) → mapped f (mapped (λ y. (tt, y)) (mapped (λ z. (inl v, z)) p)) ≡ mapped (λ closing. g v) p
  by_left v (Stopped rest) = refl
  by_left v (Taken tt rest) = ap (λ y. Taken y rest) (d v)

  by_right : (v : Y) (p : Parsed Token Word) → mapped f (mapped (λ y. (tt, y)) (mapped (λ z. (inr v, z)) p)) ≡ mapped (λ closing. h v) p
  by_right v (Stopped rest) = refl
  by_right v (Taken tt rest) = ap (λ y. Taken y rest) (e v)

  by_test : (a : Bool) (p : Parsed Token X) (q : Parsed Token Y)
      → mapped f (mapped (λ y. (tt, y)) (and_then (cond a (mapped inl p) (mapped inr q)) (λ v rest. mapped (λ z. (v, z)) (past s.Closing rest))))
      ≡ and_then (cond a (mapped g p) (mapped h q)) (λ v rest. mapped (λ closing. v) (past s.Closing rest))
  by_test true (Stopped rest) q = refl
  by_test true (Taken v rest) q = by_left v (past s.Closing rest)
  by_test false p (Stopped rest) = refl
  by_test false p (Taken v rest) = by_right v (past s.Closing rest)
