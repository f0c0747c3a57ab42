-- The end of bytes with others behind them.
use Rattle.std.proofs.Common.{◌≡◌, ◌∙◌, ◌⊎◌, inl, inr, ℕ, ◌+◌, ◌-◌, ◌<◌, ◌≤◌, List, [], ◌++◌, length, drop, sym, ap, arith, length-append, length-drop}
use Rattle.std.proofs.lemmas.Bool.{cases_lt}
use Rattle.std.proofs.lemmas.List.{drop-append-le}
use Rattle.std.proofs.Math.Seq.{drop-append-add, drop-length}
use Rattle.perm_io.specs.watched.Kept.{last_of}

-- where the others alone are more than is kept
others : (count : ℕ) (kept more : List ℕ) → count < length more →
    last_of (count - length (last_of count more)) kept ++ last_of count more ≡ last_of count (kept ++ more)
others count kept more many =
    let n : length (last_of count more) ≡ count = length-drop (length more - count) more ∙ omega (arith, many) in
    let none : length kept - (count - length (last_of count more)) ≡ length kept = omega (arith, n) in
    let at : length (kept ++ more) - count ≡ length kept + (length more - count) = omega (arith, many, length-append kept more) in
    ap (λ k. drop k kept ++ last_of count more) none
    ∙ ap (λ xs. xs ++ last_of count more) (drop-length kept)
    ∙ sym (ap (λ k. drop k (kept ++ more)) at ∙ drop-append-add kept more (length more - count))

-- where they aren't
both : (count : ℕ) (kept more : List ℕ) → length more ≤ count →
    last_of (count - length (last_of count more)) kept ++ last_of count more ≡ last_of count (kept ++ more)
both count kept more few =
    let zero : length more - count ≡ 0 = omega (arith, few) in
    let whole : last_of count more ≡ more = ap (λ k. drop k more) zero in
    let at : length kept - (count - length more) ≡ length (kept ++ more) - count = omega (arith, few, length-append kept more) in
    let within : length (kept ++ more) - count ≤ length kept = omega (arith, few, length-append kept more) in
    ap (λ xs. last_of (count - length xs) kept ++ xs) whole
    ∙ ap (λ k. drop k kept ++ more) at
    ∙ sym (drop-append-le (length (kept ++ more) - count) kept more within)

pub last_of-append : (count : ℕ) (kept more : List ℕ) →
    last_of (count - length (last_of count more)) kept ++ last_of count more ≡ last_of count (kept ++ more)
last_of-append count kept more = by (cases_lt count (length more))
  where
    by : (count < length more) ⊎ (length more ≤ count) →
        last_of (count - length (last_of count more)) kept ++ last_of count more ≡ last_of count (kept ++ more)
    by (inl many) = others count kept more many
    by (inr few) = both count kept more few
