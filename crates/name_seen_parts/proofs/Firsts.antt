-- The first break of breaks in a row.
use Rattle.std.specs.Prelude.{◌≡◌, ℕ, ◌+◌, ◌<◌, List, [], ◌∷◌, ◌++◌, length, flat_map, Ok, Err}
use Rattle.std.proofs.Common.{refl, ap, ◌∙◌, drop, get_or}
use Rattle.perm_values.proofs.Lists.{dropped}
use Rattle.name_meaning.specs.declared.answer.Break.{Break}
use Rattle.name_seen_parts.specs.Seen.{first_or}

-- the first of those before stays the first
pub first-stays : {X Y : Type 0} (xs ys : List Break) (v : X) (w : Y) (first : Break) → first_or xs v ≡ Err first → first_or (xs ++ ys) w ≡ Err first
first-stays [] ys v w first e = absurd (cc)
first-stays (x ∷ xs) ys v w first e =
    let same : x ≡ first = cc in
    ap Err same

-- where none stand before, the first is that of those behind
pub first-behind : {Y : Type 0} (xs ys : List Break) (w : Y) → xs ≡ [] → first_or (xs ++ ys) w ≡ first_or ys w
first-behind xs ys w none = ap (λ (before : List Break). first_or (before ++ ys) w) none

-- what is answered breaks nothing
pub none-broken : {X : Type 0} (xs : List Break) (v w : X) → first_or xs v ≡ Ok w → xs ≡ []
none-broken [] v w e = refl
none-broken (x ∷ xs) v w e = absurd (cc)

pub both-none : (xs ys : List Break) → xs ≡ [] → ys ≡ [] → xs ++ ys ≡ []
both-none xs ys none nothing = ap (λ (before : List Break). before ++ ys) none ∙ nothing

-- ---- breaks of three parts

pub first-stays_first : {X Y : Type 0} (xs ys zs : List Break) (v : X) (w : Y) (first : Break) → first_or xs v ≡ Err first
    → first_or (xs ++ ys ++ zs) w ≡ Err first
first-stays_first xs ys zs v w first e = first-stays (xs ++ ys) zs v w first (first-stays xs ys v v first e)

pub first-stays_second : {X Y : Type 0} (xs ys zs : List Break) (v : X) (w : Y) (first : Break) → xs ≡ [] → first_or ys v ≡ Err first
    → first_or (xs ++ ys ++ zs) w ≡ Err first
first-stays_second xs ys zs v w first none e =
    ap (λ (before : List Break). first_or (before ++ ys ++ zs) w) none ∙ first-stays ys zs v w first e

pub first-behind_two : {Y : Type 0} (xs ys zs : List Break) (w : Y) → xs ≡ [] → ys ≡ [] → first_or (xs ++ ys ++ zs) w ≡ first_or zs w
first-behind_two xs ys zs w none nothing =
    ap (λ (before : List Break). first_or (before ++ ys ++ zs) w) none ∙ ap (λ (before : List Break). first_or (before ++ zs) w) nothing

pub all-none : (xs ys zs : List Break) → xs ≡ [] → ys ≡ [] → zs ≡ [] → xs ++ ys ++ zs ≡ []
all-none xs ys zs none nothing empty = both-none (xs ++ ys) zs (both-none xs ys none nothing) empty

-- ---- breaks of a list, one after the other

pub flat-step : {X : Type 0} (f : X → List Break) (xs : List X) (i : ℕ) (x : X) → i < length xs → x ≡ get_or xs i x → f x ≡ []
    → flat_map f (drop i xs) ≡ flat_map f (drop (i + 1) xs)
flat-step f xs i x within e none =
    ap (flat_map f) (dropped xs i x within e) ∙ ap (λ (breaks : List Break). breaks ++ flat_map f (drop (i + 1) xs)) none

pub flat-first : {X Y : Type 0} (f : X → List Break) (xs : List X) (i : ℕ) (x : X) (v w : Y) (first : Break) → i < length xs → x ≡ get_or xs i x
    → first_or (f x) v ≡ Err first → first_or (flat_map f (drop i xs)) w ≡ Err first
flat-first f xs i x v w first within e broken =
    ap (λ (ys : List _). first_or (flat_map f ys) w) (dropped xs i x within e) ∙ first-stays (f x) (flat_map f (drop (i + 1) xs)) v w first broken
