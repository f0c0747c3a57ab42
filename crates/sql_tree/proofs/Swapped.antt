-- Two lists of tokens that are alike up to some token.
use Rattle.std.proofs.Common.{◌≡◌, ◌⊎◌, suc, ◌+◌, ◌≤◌, ◌<◌, ◌&&◌, List, [], ◌∷◌, ◌++◌, length, inl, inr, refl, ap, arith}
use Rattle.sql_tree.specs.grammar.Rules.{Grammar}
use Rattle.sql_tree.specs.grammar.Descent.{Parsed, Taken, Stopped, mapped, Tables, next_is, begins_with}
use Rattle.sql_tree.proofs.Begins.{has}

-- the second list has other tokens behind one token
pub data Swapped {T : Type 0} (t : T) (rest ws : List T) : List T → List T → Type 0 where
  here : Swapped t rest ws (t ∷ rest) (t ∷ ws)
  there : {x : T} {ts us : List T} → Swapped t rest ws ts us → Swapped t rest ws (x ∷ ts) (x ∷ us)

module _ {T : Type 0} (t : T) (rest ws : List T) where
  pub swapped-longer : {ts us : List T} → Swapped t rest ws ts us → length rest < length ts
  swapped-longer here = omega arith
  swapped-longer (there s) = let h = swapped-longer s in omega arith

  pub swapped-lengths : {ts us : List T} → Swapped t rest ws ts us → length ts + length ws ≡ length us + length rest
  swapped-lengths here = omega arith
  swapped-lengths (there s) = let h = swapped-lengths s in omega arith

  pub swapped-longer' : {ts us : List T} → Swapped t rest ws ts us → length ws < length us
  swapped-longer' here = omega arith
  swapped-longer' (there s) = let h = swapped-longer' s in omega arith

  pub swapped : (us : List T) → Swapped t rest ws (us ++ t ∷ rest) (us ++ t ∷ ws)
  swapped [] = here
  swapped (x ∷ us) = there (swapped us)

  -- where the one ends with the token itself, so does the other
  pub swapped-end : {ts us : List T} → Swapped t rest ws ts us → length ts ≤ suc (length rest) → us ≡ t ∷ ws
  swapped-end here e = refl
  swapped-end (there s) e = let h = swapped-longer s in absurd (omega arith)

module _ {T X : Type 0} where
  abbrev pub left_of : Parsed T X → List T
  left_of (Taken x rest) = rest
  left_of (Stopped rest) = rest

  abbrev pub with_left : List T → Parsed T X → Parsed T X
  with_left us (Taken x rest) = Taken x us
  with_left us (Stopped rest) = Stopped us

  -- either both outcomes are the same up to the token, or the first has passed it
  abbrev pub Kept : T → List T → List T → Parsed T X → Parsed T X → Type 0
  Kept t rest ws o p = ((us : List T) × Swapped t rest ws (left_of o) us × (p ≡ with_left us o)) ⊎ (length (left_of o) ≤ length rest)

pub mapped-kept : {T X Y : Type 0} (t : T) (rest ws : List T) (f : X → Y) (o p : Parsed T X) → Kept t rest ws o p → Kept t rest ws (mapped f o) (mapped f p)
mapped-kept t rest ws f (Taken x m) p (inl k) = inl (k.0, k.1, ap (mapped f) k.2)
mapped-kept t rest ws f (Taken x m) p (inr k) = inr k
mapped-kept t rest ws f (Stopped m) p (inl k) = inl (k.0, k.1, ap (mapped f) k.2)
mapped-kept t rest ws f (Stopped m) p (inr k) = inr k

module _ (g : Grammar) (tables : Tables g) (t : g.Token) (rest ws : List g.Token) where
  pub next_is-swapped : (sorts : List g.Sort) {ts us : List g.Token} → Swapped t rest ws ts us → next_is g tables sorts ts ≡ next_is g tables sorts us
  next_is-swapped sorts here = refl
  next_is-swapped sorts (there s) = refl

  pub begins_with-swapped : (classes : List (List g.Sort)) {ts us : List g.Token} → Swapped t rest ws ts us → length classes + length rest ≤ length ts
      → begins_with g tables classes ts ≡ begins_with g tables classes us
  begins_with-swapped [] s few = refl
  begins_with-swapped (one ∷ []) here few = refl
  begins_with-swapped (one ∷ two ∷ more) here few = absurd (omega arith)
  begins_with-swapped (one ∷ more) (there {x = x} s) few = ap (λ b. has g tables one x && b) (begins_with-swapped more s (omega arith))
