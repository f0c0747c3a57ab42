-- A text that grows piece by piece: pieces laid one behind another, and one more item of a list.
use Rattle.std.proofs.Common.{◌≡◌, ◌∙◌, ℕ, suc, ◌+◌, ◌<◌, ◌≤◌, List, [], ◌∷◌, ◌++◌, map, length, get_or, take, drop, sym, ap, arith, add-one, append_assoc, append-nil}
use Rattle.std.specs.List.{flat_map, range_with_len}
use Rattle.std.proofs.lemmas.Grind.{flat_map-append}
use Rattle.std.proofs.lemmas.List.{at_drop_all, at_drop_more, map_more}
use Rattle.perm_values.proofs.Ranges.{range-next}
use Rattle.bag_algebra.proofs.Rest.{from_here}
use Rattle.tree_texts.specs.expressions.Words.{separated, separator}

-- ---- pieces

pub laid2 : {X : Type 0} (start one two a b : List X) → one ≡ start ++ a → two ≡ one ++ b → two ≡ start ++ (a ++ b)
laid2 start one two a b first second = second ∙ ap (λ t. t ++ b) first ∙ append_assoc start a b

pub laid3 : {X : Type 0} (start one two three a b c : List X) → one ≡ start ++ a → two ≡ one ++ b → three ≡ two ++ c → three ≡ start ++ (a ++ (b ++ c))
laid3 start one two three a b c first second third = laid2 start one three a (b ++ c) first (laid2 one two three b c second third)

pub laid4 : {X : Type 0} (start one two three four a b c d : List X) → one ≡ start ++ a → two ≡ one ++ b → three ≡ two ++ c → four ≡ three ++ d
    → four ≡ start ++ (a ++ (b ++ (c ++ d)))
laid4 start one two three four a b c d first second third fourth =
    laid2 start one four a (b ++ (c ++ d)) first (laid3 one two three four b c d second third fourth)

pub laid6 : {X : Type 0} (start one two three four five six a b c d e f : List X) → one ≡ start ++ a → two ≡ one ++ b → three ≡ two ++ c
    → four ≡ three ++ d → five ≡ four ++ e → six ≡ five ++ f → six ≡ start ++ (a ++ (b ++ (c ++ (d ++ (e ++ f)))))
laid6 start one two three four five six a b c d e f first second third fourth fifth sixth =
    laid3 start one two six a b (c ++ (d ++ (e ++ f))) first second (laid4 two three four five six c d e f third fourth fifth sixth)

-- ---- items of a list, from a place on

module _ {X Y : Type 0} (F G : List X → List Y) (piece : X → List Y) (start now after : List Y) (xs : List X) (i : ℕ) where
  -- the item at the place joins those before it
  pub rest_next : (x : X) → i < length xs → x ≡ get_or xs i x → F (x ∷ drop (i + 1) xs) ≡ piece x ++ G (drop (i + 1) xs)
      → start ≡ now ++ F (drop i xs) → after ≡ now ++ piece x → start ≡ after ++ G (drop (i + 1) xs)
  rest_next x within is step before joined =
      before ∙ ap (λ t. now ++ t) (from_here F xs i x within is ∙ step) ∙ sym (append_assoc now (piece x) (G (drop (i + 1) xs)))
      ∙ ap (λ t. t ++ G (drop (i + 1) xs)) (sym joined)

  -- the same of an item that is read where it lies
  pub rest_at : (d : X) → i < length xs → F (get_or xs i d ∷ drop (i + 1) xs) ≡ piece (get_or xs i d) ++ G (drop (i + 1) xs)
      → start ≡ now ++ F (drop i xs) → after ≡ now ++ piece (get_or xs i d) → start ≡ after ++ G (drop (i + 1) xs)
  rest_at d within step before joined =
      before ∙ ap (λ t. now ++ t) (at_drop_more F xs i d within ∙ step) ∙ sym (append_assoc now (piece (get_or xs i d)) (G (drop (i + 1) xs)))
      ∙ ap (λ t. t ++ G (drop (i + 1) xs)) (sym joined)

-- behind the last item nothing is left
pub rest_end : {X Y : Type 0} (F : List X → List Y) (start now : List Y) (xs : List X) (i : ℕ) → length xs ≤ i → F [] ≡ []
    → start ≡ now ++ F (drop i xs) → now ≡ start
rest_end F start now xs i past none before =
    sym (before ∙ ap (λ t. now ++ t) (at_drop_all F xs i past ∙ none) ∙ append-nil now)

-- one more of the texts of a list
pub mapped_next : {X Y : Type 0} (g : X → Y) (xs : List X) (i : ℕ) (x : X) (now after : List Y) → i < length xs → x ≡ get_or xs i x
    → now ≡ map g (take i xs) → after ≡ now ++ g x ∷ [] → after ≡ map g (take (i + 1) xs)
mapped_next g xs i x now after within is before joined =
    joined ∙ ap (λ ys. ys ++ g x ∷ []) before ∙ ap (λ y. map g (take i xs) ++ g y ∷ []) is ∙ sym (map_more g xs i x within)

-- ---- ranges

one_more : {Y : Type 0} (f : ℕ → List Y) (n : ℕ) → flat_map f (range_with_len 0 (n + 1)) ≡ flat_map f (range_with_len 0 n) ++ f n
one_more f n =
    let one : n + 1 ≡ suc n = omega arith in
    let last : 0 + n ≡ n = omega arith in
    ap (λ m. flat_map f (range_with_len 0 m)) one ∙ ap (flat_map f) (range-next 0 n) ∙ flat_map-append f (range_with_len 0 n) ((0 + n) ∷ [])
    ∙ ap (λ rest. flat_map f (range_with_len 0 n) ++ rest) (append-nil (f (0 + n)) ∙ ap f last)

-- one more item of a range
pub range_next : {Y : Type 0} (f : ℕ → List Y) (start now after : List Y) (n : ℕ) → now ≡ start ++ flat_map f (range_with_len 0 n)
    → after ≡ now ++ f n → after ≡ start ++ flat_map f (range_with_len 0 (n + 1))
range_next f start now after n before joined =
    laid2 start now after (flat_map f (range_with_len 0 n)) (f n) before joined ∙ ap (λ t. start ++ t) (sym (one_more f n))

-- ---- parts with what stands between them

pub parts_next : {X : Type 0} (second later : List ℕ) (text : X → List ℕ) (start now between after : List ℕ) (xs : List X) (i : ℕ) (x : X)
    → i < length xs → x ≡ get_or xs i x → start ≡ now ++ separated second later i (map text (drop i xs))
    → between ≡ now ++ separator second later i → after ≡ between ++ text x
    → start ≡ after ++ separated second later (i + 1) (map text (drop (i + 1) xs))
parts_next second later text start now between after xs i x within is before word part =
    let rest = map text (drop (i + 1) xs) in
    rest_next (λ l. separated second later i (map text l)) (λ l. separated second later (i + 1) (map text l)) (λ y. separator second later i ++ text y)
    start now after xs i x within is
    (ap (λ n. separator second later i ++ (text x ++ separated second later n rest)) (sym (add-one i))
    ∙ sym (append_assoc (separator second later i) (text x) (separated second later (i + 1) rest)))
    before (laid2 now between after (separator second later i) (text x) word part)
