-- Lists that loops go through: those so far, the one at hand, and those behind it.
use Rattle.std.specs.Prelude.{◌≡◌, ℕ, ◌+◌, ◌<◌, List, [], ◌∷◌, ◌++◌, length, map, IsErrAnd, Result, Ok, Err}
use Rattle.std.proofs.Common.{ap, sym, subst, ◌∙◌, take, drop, get_or}
use Rattle.std.proofs.lemmas.List.{map-append, take-append-drop}
use Rattle.perm_values.proofs.Lists.{map-taken, dropped}
use Rattle.name_seen_parts.specs.declared.refusal.Refusal.{Refusal}

pub mapped-at : {X Y : Type 0} (p : X → Y) (xs : List X) (i : ℕ) (x : X) → i < length xs → x ≡ get_or xs i x
    → map p xs ≡ map p (take i xs) ++ p x ∷ map p (drop (i + 1) xs)
mapped-at p xs i x within e =
    ap (map p) (sym (take-append-drop i xs) ∙ ap (λ (rest : List _). take i xs ++ rest) (dropped xs i x within e))
    ∙ map-append p (take i xs) (x ∷ drop (i + 1) xs)

pub twice-more : {X Y Z : Type 0} (g : Y → Z) (p : X → Y) (xs : List X) (i : ℕ) (x : X) → i < length xs → x ≡ get_or xs i x
    → map g (map p (take (i + 1) xs)) ≡ map g (map p (take i xs)) ++ g (p x) ∷ []
twice-more g p xs i x within e = ap (map g) (map-taken p xs i x within e) ∙ map-append g (map p (take i xs)) (p x ∷ [])

pub twice-at : {X Y Z : Type 0} (g : Y → Z) (p : X → Y) (xs : List X) (i : ℕ) (x : X) → i < length xs → x ≡ get_or xs i x
    → map g (map p xs) ≡ map g (map p (take i xs)) ++ g (p x) ∷ map g (map p (drop (i + 1) xs))
twice-at g p xs i x within e = ap (map g) (mapped-at p xs i x within e) ∙ map-append g (map p (take i xs)) (p x ∷ map p (drop (i + 1) xs))

-- ---- what is refused, answered on

pub same-refused : {X : Type 0} (P : Result X Refusal → Type 0) (result : Result X Refusal) (refusal : Refusal) → IsErrAnd result (λ (r : Refusal). r ≡ refusal) → P (Err refusal)
    → P result
same-refused P (Ok x) refusal is p = absurd is
same-refused P (Err r) refusal is p = subst (λ (s : Refusal). P (Err s)) (sym is) p
