-- The longest front of a list that passes a test.
use Rattle.std.proofs.Common.{◌≡◌, ℕ, suc, ◌+◌, Bool, true, false, List, [], ◌∷◌, ◌++◌, length, take, drop, refl, ap, ◌∙◌, ⊎_elim, one-add, ◌<◌, get_or, arith}
use Rattle.std.specs.List.{prefix_len, list_all}
use Rattle.std.proofs.lemmas.Bool.{cases_Bool, cond-true, cond-false, and_parts}
use Rattle.sql_lexer.specs.Bytes.{next_is}

-- the list begins with bytes that pass, up to one that doesn't
pub data Fronts (p : ℕ → Bool) : List ℕ → ℕ → Type 0 where
  ends : {xs : List ℕ} → next_is p xs ≡ false → Fronts p xs 0
  goes : {x n : ℕ} {xs : List ℕ} → p x ≡ true → Fronts p xs n → Fronts p (x ∷ xs) (suc n)

pub front_more : (p : ℕ → Bool) (x : ℕ) (xs : List ℕ) → p x ≡ true → prefix_len p (x ∷ xs) ≡ suc (prefix_len p xs)
front_more p x xs e = cond-true (p x) (1 + prefix_len p xs) 0 e ∙ one-add (prefix_len p xs)

pub front_none : (p : ℕ → Bool) (x : ℕ) (xs : List ℕ) → p x ≡ false → prefix_len p (x ∷ xs) ≡ 0
front_none p x xs e = cond-false (p x) (1 + prefix_len p xs) 0 e

pub fronts : (p : ℕ → Bool) (xs : List ℕ) → Fronts p xs (prefix_len p xs)
fronts p [] = ends refl
fronts p (x ∷ xs) =
    ⊎_elim (λ e. rw (front_more p x xs e) (goes e (fronts p xs))) (λ e. rw (front_none p x xs e) (ends e)) (cases_Bool (p x))

passes : {p : ℕ → Bool} {xs : List ℕ} {n : ℕ} → Fronts p xs n → list_all p (take n xs) ≡ true
passes (ends e) = refl
passes {p} (goes {x} {n} {xs} e f) = rw (e, passes f)

stops : {p : ℕ → Bool} {xs : List ℕ} {n : ℕ} → Fronts p xs n → next_is p (drop n xs) ≡ false
stops (ends e) = e
stops (goes e f) = stops f

pub front_passes : (p : ℕ → Bool) (xs : List ℕ) → list_all p (take (prefix_len p xs) xs) ≡ true
front_passes p xs = passes (fronts p xs)

pub front_stops : (p : ℕ → Bool) (xs : List ℕ) → next_is p (drop (prefix_len p xs) xs) ≡ false
front_stops p xs = stops (fronts p xs)

pub front_is : (p : ℕ → Bool) (xs rest : List ℕ) → list_all p xs ≡ true → next_is p rest ≡ false → prefix_len p (xs ++ rest) ≡ length xs
front_is p [] [] all stop = refl
front_is p [] (r ∷ rest) all stop = front_none p r rest stop
front_is p (x ∷ xs) rest all stop =
    let both = and_parts (p x) (list_all p xs) all in
    front_more p x (xs ++ rest) both.0 ∙ ap suc (front_is p xs rest both.1 stop)

-- the first byte alone
pub first_of : (text : List ℕ) → 0 < length text → take 1 text ≡ get_or text 0 0 ∷ []
first_of [] some = absurd (omega arith)
first_of (b ∷ rest) some = refl
