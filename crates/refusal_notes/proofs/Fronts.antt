-- A line and the same with a line feed behind it.
use Rattle.std.proofs.Common.{◌≡◌, ◌∙◌, ℕ, suc, ◌+◌, List, [], ◌∷◌, ◌++◌, length, take, get_or, refl, sym, ap, arith, length-append}
use Rattle.std.proofs.lemmas.List.{take_at, take_all, get_or_at}
use Rattle.std.proofs.Math.Seq.{take-suc}

pub front-length : (line whole : List ℕ) → line ++ 10 ∷ [] ≡ whole → length whole ≡ length line + 1
front-length line whole e = ap length (sym e) ∙ length-append line (10 ∷ [])

pub front-byte : (line whole : List ℕ) (d : ℕ) → line ++ 10 ∷ [] ≡ whole → get_or whole (length line) d ≡ 10
front-byte line whole d e = ap (λ xs. get_or xs (length line) d) (sym e) ∙ get_or_at line 10 [] d (length line) refl

pub front-take : (line whole : List ℕ) → line ++ 10 ∷ [] ≡ whole → take (length line) whole ≡ line
front-take line whole e = ap (take (length line)) (sym e) ∙ take_at line (10 ∷ []) (length line) refl

pub front-whole : (line whole : List ℕ) (d : ℕ) → length whole ≡ length line + 1 → get_or whole (length line) d ≡ 10 →
    take (length line) whole ≡ line → line ++ 10 ∷ [] ≡ whole
front-whole line whole d n byte front =
    let all : take (suc (length line)) whole ≡ whole = take_all (suc (length line)) whole (omega (arith, n)) in
    sym (sym all ∙ take-suc whole (length line) d (omega (arith, n)) ∙ ap (λ xs. xs ++ get_or whole (length line) d ∷ []) front ∙ ap (λ b. line ++ b ∷ []) byte)
