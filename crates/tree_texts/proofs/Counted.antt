-- The tests of how many parts there are, as code makes them.
use Rattle.std.proofs.Common.{◌≡◌, ◌∙◌, ℕ, zero, suc, cond, List, [], nat_eq, nat_lt, refl, ap}
use lib.Dec.{leb-zero, leb-suc-suc, eqb-suc-zero, eqb-suc-suc}
use Rattle.tree_texts.specs.expressions.Words.{is_any, is_one, is_several, is_three, is_two, separator}

pub one-is : (n : ℕ) → nat_eq n 1 ≡ is_one n
one-is zero = refl
one-is (suc zero) = refl
one-is (suc (suc n)) = eqb-suc-suc (suc n) 0 ∙ eqb-suc-zero n

pub two-is : (n : ℕ) → nat_eq n 2 ≡ is_two n
two-is zero = refl
two-is (suc zero) = refl
two-is (suc (suc zero)) = refl
two-is (suc (suc (suc n))) = eqb-suc-suc (suc (suc n)) 1 ∙ eqb-suc-suc (suc n) 0 ∙ eqb-suc-zero n

pub three-is : (n : ℕ) → nat_eq n 3 ≡ is_three n
three-is zero = refl
three-is (suc zero) = refl
three-is (suc (suc zero)) = refl
three-is (suc (suc (suc zero))) = refl
three-is (suc (suc (suc (suc n)))) = eqb-suc-suc (suc (suc (suc n))) 2 ∙ eqb-suc-suc (suc (suc n)) 1 ∙ eqb-suc-suc (suc n) 0 ∙ eqb-suc-zero n

pub any-is : (n : ℕ) → nat_lt 0 n ≡ is_any n
any-is zero = refl
any-is (suc n) = leb-suc-suc 0 n ∙ leb-zero n

pub several-is : (n : ℕ) → nat_lt 1 n ≡ is_several n
several-is zero = refl
several-is (suc zero) = refl
several-is (suc (suc n)) = leb-suc-suc 1 (suc n) ∙ leb-suc-suc 0 n ∙ leb-zero n

pub separator-is : (first later : List ℕ) (n : ℕ) → cond (nat_eq n 0) [] (cond (is_one n) first later) ≡ separator first later n
separator-is first later zero = refl
separator-is first later (suc zero) = refl
separator-is first later (suc (suc n)) = ap (λ b. cond b [] later) (eqb-suc-zero (suc n))
