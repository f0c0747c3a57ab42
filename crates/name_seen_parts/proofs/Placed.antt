-- What is found of a list, one after the other.
use Rattle.std.specs.Prelude.{◌≡◌, ℕ, ◌+◌, ◌<◌, List, [], ◌∷◌, ◌++◌, length, filter_map, Option, Some, None}
use Rattle.std.proofs.Common.{ap, sym, ◌∙◌, take, get_or, append-nil}
use Rattle.std.proofs.lemmas.List.{take_more}
use Rattle.std.proofs.lemmas.List.Elements.{filter_map-append}

found-more : {X Y : Type 0} (f : X → Option Y) (xs : List X) (i : ℕ) (x : X) → i < length xs → x ≡ get_or xs i x
    → filter_map f (take (i + 1) xs) ≡ filter_map f (take i xs) ++ filter_map f (x ∷ [])
found-more f xs i x within e =
    ap (filter_map f) (take_more xs i x within ∙ ap (λ y. take i xs ++ y ∷ []) (sym e)) ∙ filter_map-append f (take i xs) (x ∷ [])

one-found : {X Y : Type 0} (f : X → Option Y) (x : X) (o : Option Y) (y : Y) → f x ≡ o → o ≡ Some y → filter_map f (x ∷ []) ≡ y ∷ []
one-found f x o y is some = cc

none-found : {X Y : Type 0} (f : X → Option Y) (x : X) (o : Option Y) → f x ≡ o → o ≡ None → filter_map f (x ∷ []) ≡ []
none-found f x o is none = cc

pub found-behind : {X Y : Type 0} (f : X → Option Y) (xs : List X) (i : ℕ) (x : X) (found : List Y) (o : Option Y) (y : Y)
    → i < length xs → x ≡ get_or xs i x → found ≡ filter_map f (take i xs) → o ≡ f x → o ≡ Some y → found ++ y ∷ [] ≡ filter_map f (take (i + 1) xs)
found-behind f xs i x found o y within e so_far is some =
    (λ at. so_far at ++ sym (one-found f x o y (sym is) some) at) ∙ sym (found-more f xs i x within e)

pub found-passed : {X Y : Type 0} (f : X → Option Y) (xs : List X) (i : ℕ) (x : X) (found : List Y) (o : Option Y)
    → i < length xs → x ≡ get_or xs i x → found ≡ filter_map f (take i xs) → o ≡ f x → o ≡ None → found ≡ filter_map f (take (i + 1) xs)
found-passed f xs i x found o within e so_far is none =
    so_far ∙ sym (append-nil (filter_map f (take i xs))) ∙ ap (λ (ys : List _). filter_map f (take i xs) ++ ys) (sym (none-found f x o (sym is) none))
    ∙ sym (found-more f xs i x within e)
