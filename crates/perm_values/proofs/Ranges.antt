-- Consecutive numbers, and one more of them.
use Rattle.std.proofs.Common.{◌≡◌, ℕ, zero, suc, ◌+◌, ◌-◌, ◌≤◌, [], ◌∷◌, ◌++◌, ap, ◌∙◌, arith}
use Rattle.std.specs.List.{range_with_len}

pub range-next : (first count : ℕ) → range_with_len first (suc count) ≡ range_with_len first count ++ (first + count) ∷ []
range-next first zero = let same : first ≡ first + 0 = omega arith in ap (λ place. place ∷ []) same
range-next first (suc count) =
    let last : first + 1 + count ≡ first + suc count = omega arith in
    ap (λ places. first ∷ places) (range-next (first + 1) count ∙ ap (λ place. range_with_len (first + 1) count ++ place ∷ []) last)

pub range-pushed : (first place : ℕ) → first ≤ place → range_with_len first (place + 1 - first) ≡ range_with_len first (place - first) ++ place ∷ []
range-pushed first place h =
    let longer : place + 1 - first ≡ suc (place - first) = omega (arith, h) in
    let last : first + (place - first) ≡ place = omega (arith, h) in
    ap (range_with_len first) longer
    ∙ range-next first (place - first)
    ∙ ap (λ next. range_with_len first (place - first) ++ next ∷ []) last
