-- Lists without parts, and lists taken and left one element further.
use Rattle.std.proofs.Common.{◌≡◌, ℕ, ◌+◌, ◌<◌, List, [], ◌∷◌, ◌++◌, length, map, take, drop, get_or, refl, sym, ap, ◌∙◌}
use Rattle.std.proofs.lemmas.List.{take_more, drop_more, map-append}

pub front-none : {X : Type 0} (xs ys : List X) → xs ++ ys ≡ [] → xs ≡ []
front-none [] ys e = refl
front-none (x ∷ xs) ys e = cc e

pub back-none : {X : Type 0} (xs ys : List X) → xs ++ ys ≡ [] → ys ≡ []
back-none [] ys e = e
back-none (x ∷ xs) ys e = cc e

pub taken : {X : Type 0} (xs : List X) (i : ℕ) (x : X) → i < length xs → x ≡ get_or xs i x → take (i + 1) xs ≡ take i xs ++ x ∷ []
taken xs i x in_range e = take_more xs i x in_range ∙ ap (λ y. take i xs ++ y ∷ []) (sym e)

pub map-taken : {X Y : Type 0} (f : X → Y) (xs : List X) (i : ℕ) (x : X) → i < length xs → x ≡ get_or xs i x →
    map f (take (i + 1) xs) ≡ map f (take i xs) ++ f x ∷ []
map-taken f xs i x in_range e = ap (map f) (taken xs i x in_range e) ∙ map-append f (take i xs) (x ∷ [])

pub dropped : {X : Type 0} (xs : List X) (i : ℕ) (x : X) → i < length xs → x ≡ get_or xs i x → drop i xs ≡ x ∷ drop (i + 1) xs
dropped xs i x in_range e = drop_more xs i x in_range ∙ ap (λ y. y ∷ drop (i + 1) xs) (sym e)
