-- Lists that grow by what passes a test, or by what is moved.
use Rattle.std.proofs.Common.{◌≡◌, ℕ, ◌<◌, ◌+◌, Bool, cond, List, [], ◌∷◌, ◌++◌, length, get_or, filter, take, append-nil, sym, ap, ◌∙◌, subst}
use Rattle.perm_values.proofs.Lists.{taken}
use Rattle.bag_algebra.specs.declared.expr.Expr.{Expr}
use Rattle.contribution.specs.MovedColumns.{IsMoved, PartsMoved}
use Rattle.simpler_laws.proofs.Gathered.{filter-append}

filter-next : {X : Type 0} (p : X → Bool) (xs : List X) (i : ℕ) (x : X) → i < length xs → x ≡ get_or xs i x →
    filter p (take i xs) ++ cond (p x) (x ∷ []) [] ≡ filter p (take (i + 1) xs)
filter-next p xs i x within is = sym (ap (filter p) (taken xs i x within is) ∙ filter-append p (take i xs) (x ∷ []))

pub added-where : {X : Type 0} (p : X → Bool) (xs found more : List X) (i : ℕ) (x : X) (goes : Bool) → i < length xs → x ≡ get_or xs i x →
    found ≡ filter p (take i xs) → goes ≡ p x → more ≡ found ++ cond goes (x ∷ []) [] → more ≡ filter p (take (i + 1) xs)
added-where p xs found more i x goes within is so_far same e = e ∙ (λ j. so_far j ++ cond (same j) (x ∷ []) []) ∙ filter-next p xs i x within is

module _ (order : List ℕ) where
  pub moved-added : (p : Expr → Bool) (xs more : List Expr) (i : ℕ) (x : Expr) (goes : Bool) → i < length xs → x ≡ get_or xs i x → goes ≡ p x →
      PartsMoved order (filter p (take i xs) ++ cond goes (x ∷ []) []) more → PartsMoved order (filter p (take (i + 1) xs)) more
  moved-added p xs more i x goes within is same m =
      subst (λ es. PartsMoved order es more) ((λ j. filter p (take i xs) ++ cond (same j) (x ∷ []) []) ∙ filter-next p xs i x within is) m

  pub moved-behind : (es ps : List Expr) (e p : Expr) → PartsMoved order es ps → IsMoved order e p → PartsMoved order (es ++ e ∷ []) (ps ++ p ∷ [])
  moved-behind [] [] e p m n = (n, tt)
  moved-behind [] (q ∷ ps) e p m n = absurd m
  moved-behind (f ∷ es) [] e p m n = absurd m
  moved-behind (f ∷ es) (q ∷ ps) e p m n = (m.0, moved-behind es ps e p m.1 n)

  pub moved-unadded : (es ps : List Expr) → PartsMoved order es ps → PartsMoved order (es ++ []) ps
  moved-unadded es ps m = subst (λ fs. PartsMoved order fs ps) (sym (append-nil es)) m
