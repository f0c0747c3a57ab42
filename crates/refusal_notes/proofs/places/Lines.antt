-- How a line grows with a byte, to both sides.
use Rattle.std.proofs.Common.{refl, sym, arith, ◌∙◌, ap, ◌≡◌, ◌<◌, ◌≤◌, ◌+◌, ◌-◌, ℕ, suc, true, false, cond, not, List, [], ◌∷◌, ◌++◌, take, drop, reverse, length, get_or}
use Rattle.std.proofs.Math.Seq.{take-suc, take-add, drop-length}
use Rattle.std.proofs.lemmas.List.{reverse-append, drop-append-le, length-take-le, drop-take}
use Rattle.std.proofs.lemmas.List.Sums.{take_while-cons}
use Rattle.refusal_notes.specs.places.Places.{is_feed, back_to_feed}

back-snoc : (before : List ℕ) (byte : ℕ) → back_to_feed (before ++ byte ∷ []) ≡ cond (not (is_feed byte)) (byte ∷ back_to_feed before) []
back-snoc before byte = rw (reverse-append before (byte ∷ [])) (take_while-cons (λ b. not (is_feed b)) byte (reverse before))

back-next : (before : List ℕ) (i d : ℕ) → i < length before →
    back_to_feed (take (suc i) before) ≡ cond (not (is_feed (get_or before i d))) (get_or before i d ∷ back_to_feed (take i before)) []
back-next before i d below = rw (take-suc before i d below) (back-snoc (take i before) (get_or before i d))

-- a line begins behind a line feed
pub start-feed : (before : List ℕ) (i d : ℕ) → i < length before → is_feed (get_or before i d) ≡ true →
    drop (i + 1) (take (i + 1) before) ≡ reverse (back_to_feed (take (i + 1) before))
start-feed before i d below feed =
    let e : i + 1 ≡ suc i = omega arith in
    rw e (rw (back-next before i d below, feed) (drop-whole (suc i) (take (suc i) before) (length-take-le (suc i) before (omega (arith, below)))))
  where
    drop-whole : (n : ℕ) (xs : List ℕ) → length xs ≡ n → drop n xs ≡ []
    drop-whole n xs f = rw (sym f) (drop-length xs)

-- and another byte is its last
pub start-other : (before : List ℕ) (i start d : ℕ) → i < length before → start ≤ i → is_feed (get_or before i d) ≡ false →
    drop start (take i before) ≡ reverse (back_to_feed (take i before)) →
    drop start (take (i + 1) before) ≡ reverse (back_to_feed (take (i + 1) before))
start-other before i start d below fits other line =
    let e : i + 1 ≡ suc i = omega arith in
    let n : length (take i before) ≡ i = length-take-le i before (omega (arith, below)) in
    let back : back_to_feed (take (suc i) before) ≡ get_or before i d ∷ back_to_feed (take i before) = back-next before i d below ∙ rw other refl in
    rw e (
    ap (drop start) (take-suc before i d below)
    ∙ drop-append-le start (take i before) (get_or before i d ∷ []) (omega (arith, n, fits))
    ∙ ap (λ xs. xs ++ get_or before i d ∷ []) line
    ∙ sym (reverse-append (get_or before i d ∷ []) (back_to_feed (take i before)))
    ∙ sym (ap reverse back))

-- what stands between the two borders
pub between : (script : List ℕ) (o s n : ℕ) → s ≤ o → o ≤ length script →
    take (o + n - s) (drop s script) ≡ drop s (take o script) ++ take n (drop o script)
between script o s n before fits =
    let whole : length (take o script) ≡ o = length-take-le o script fits in
    let up : s + (o + n - s) ≡ o + n = omega (arith, before) in
    sym (drop-take s (o + n - s) script)
    ∙ ap (λ k. drop s (take k script)) up
    ∙ ap (drop s) (take-add o n script)
    ∙ drop-append-le s (take o script) (take n (drop o script)) (omega (arith, whole, before))
