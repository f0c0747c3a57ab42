-- Lists by their number, from 1.
use Rattle.std.proofs.Common.{◌≡◌, ◌∙◌, ◌<◌, ◌≤◌, ◌+◌, ℕ, zero, suc, List, [], ◌∷◌, ◌++◌, length, Option, Some, None, refl, sym, ap, arith}
use Rattle.csv.specs.Records.{field_at}
use Rattle.refusal_hints.specs.Fields.{numbered}

pub numbered_zero : {X : Type 0} (lists : List (List X)) → numbered lists 0 ≡ []
numbered_zero [] = refl
numbered_zero (list ∷ lists) = refl

pub numbered_next : {X : Type 0} (done : List (List X)) (list : List X) → numbered (done ++ list ∷ []) (suc (length done)) ≡ list
numbered_next [] list = refl
numbered_next (first ∷ done) list = numbered_next done list

pub numbered_front : {X : Type 0} (done rest : List (List X)) (n : ℕ) → n ≤ length done → numbered (done ++ rest) n ≡ numbered done n
numbered_front [] rest zero within = numbered_zero rest
numbered_front [] rest (suc n) within = absurd (omega (arith, within))
numbered_front (first ∷ done) rest zero within = refl
numbered_front (first ∷ done) rest (suc zero) within = refl
numbered_front (first ∷ done) rest (suc (suc n)) within = numbered_front done rest (suc n) (omega (arith, within))

pub numbered_behind : {X : Type 0} (done : List (List X)) (n : ℕ) → length done < n → numbered done n ≡ []
numbered_behind [] n behind = refl
numbered_behind (first ∷ done) zero behind = refl
numbered_behind (first ∷ done) (suc zero) behind = absurd (omega (arith, behind))
numbered_behind (first ∷ done) (suc (suc n)) behind = numbered_behind done (suc n) (omega (arith, behind))

-- a field as a record gives it
pub numbered_found : (fields : List (List ℕ)) (n : ℕ) (found : List ℕ) → field_at fields n ≡ Some found → found ≡ numbered fields (suc n)
unfolding field_at
numbered_found [] n found e = cc
numbered_found (field ∷ fields) zero found e = cc
numbered_found (field ∷ fields) (suc n) found e = numbered_found fields n found e

pub numbered_missing : (fields : List (List ℕ)) (n : ℕ) → field_at fields n ≡ None → numbered fields (suc n) ≡ []
unfolding field_at
numbered_missing [] n e = refl
numbered_missing (field ∷ fields) zero e = cc
numbered_missing (field ∷ fields) (suc n) e = numbered_missing fields n e
