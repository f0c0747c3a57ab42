-- The greatest number of the items so far, as code holds it.
use Rattle.std.proofs.Common.{◌≡◌, ℕ, ◌+◌, ◌^◌, ◌<◌, ◌≤◌, nat_lt, max, cond, Bool, true, false, List, [], ◌∷◌, ◌++◌, Option, Some, None, length, get_or, take, subst, refl, sym, ap, ◌∙◌, arith}
use Rattle.std.specs.Prelude.{IfNone}
use Rattle.std.proofs.lemmas.Bool.{ltb-false}
use Rattle.std.proofs.lemmas.Bool.Decides.{nat_tests}
use Rattle.std.proofs.lemmas.List.{take_all, take_more}
use Rattle.query_facts.specs.reached.InUsize.{in_usize}
use Rattle.query_facts.specs.reached.Reach.{greatest}

greatest-behind : {X : Type 0} (f : X → ℕ) (xs : List X) (x : X) → greatest f (xs ++ x ∷ []) ≡ max (greatest f xs) (f x)
greatest-behind f [] x = omega arith
greatest-behind f (y ∷ xs) x = let rest = greatest-behind f xs x in omega arith

-- a loop that goes up to an item has the greatest number of the items before it
abbrev pub SoFar : {X : Type 0} → (ℕ → X → ℕ) → List X → Option ℕ → ℕ → Option ℕ → Type 0
SoFar f xs level i reach = (n : ℕ) → level ≡ in_usize n → reach ≡ in_usize (greatest (f n) (take i xs))

module _ {X : Type 0} (f : ℕ → X → ℕ) (xs : List X) (level : Option ℕ) (i : ℕ) (reach : Option ℕ) (so_far : SoFar f xs level i reach) where
  pub one-more : (x : X) (own next : Option ℕ) → i < length xs → x ≡ get_or xs i x →
      ((n : ℕ) → level ≡ in_usize n → own ≡ in_usize (f n x)) →
      ((m n : ℕ) → reach ≡ in_usize m → own ≡ in_usize n → next ≡ in_usize (max m n)) → SoFar f xs level (i + 1) next
  one-more x own next inside item reaches further n h =
      further (greatest (f n) (take i xs)) (f n x) (so_far n h) (reaches n h)
      ∙ ap in_usize (sym (ap (greatest (f n)) (take_more xs i x inside ∙ ap (λ y. take i xs ++ y ∷ []) (sym item)) ∙ greatest-behind (f n) (take i xs) x))

  pub all-done : length xs ≤ i → (n : ℕ) → level ≡ in_usize n → reach ≡ in_usize (greatest (f n) xs)
  all-done h n e = so_far n e ∙ ap (λ ys. in_usize (greatest (f n) ys)) (take_all i xs h)

-- a number that code holds is the number itself, and one that it doesn't hold is too great
module _ (n : ℕ) (r : Option ℕ) (e : r ≡ in_usize n) where
  pub is_held : (k : ℕ) → r ≡ Some k → k ≡ n
  is_held k h = held (nat_lt n (2 ^ 64)) (sym e ∙ h) where
    held : (b : Bool) → cond b (Some n) None ≡ Some k → k ≡ n
    held true f = cc
    held false f = absurd (cc f)

  pub is_too_great : IfNone r (2 ^ 64 ≤ n)
  is_too_great = subst (λ o. IfNone o (2 ^ 64 ≤ n)) (sym e) (great (nat_lt n (2 ^ 64)) refl) where
    great : (b : Bool) → nat_lt n (2 ^ 64) ≡ b → IfNone (cond b (Some n) None) (2 ^ 64 ≤ n)
    great true f = tt
    great false f = ltb-false n (2 ^ 64) f

-- whether such a number is some
pub is_some : (n k : ℕ) → Some k ≡ in_usize n → nat_lt 0 k ≡ nat_lt 0 n
is_some n k e = ap (nat_lt 0) (is_held n (Some k) e k refl)

great_is : (n : ℕ) → 2 ^ 64 ≤ n → true ≡ nat_lt 0 n
great_is n h = grind (arith, nat_tests)

pub is_great : (n : ℕ) → None ≡ in_usize n → true ≡ nat_lt 0 n
is_great n e = great_is n (is_too_great n None e)
