-- Bytes written, where they are told, with others behind them.
use Rattle.std.proofs.Common.{◌≡◌, ◌∙◌, ℕ, ◌+◌, ◌-◌, Bool, ◌||◌, nat_lt, List, [], ◌++◌, length, take, drop, length-drop, refl, sym, ap, append_assoc, append-nil, arith}
use Rattle.std.proofs.lemmas.List.{take_all}
use Rattle.std.proofs.lemmas.Bool.Decides.{nat_tests}
use Rattle.std.proofs.Math.Bool.{or_assoc}
use Rattle.std.proofs.Math.Seq.{take-add}
use Rattle.std.specs.Prelude.{Option, None, Some}
use Rattle.std.specs.Io.KnownBytes.{append_known}

-- two pieces written are one
pub append_known-append_known : (known : Option (List ℕ)) (xs ys : List ℕ) →
    append_known (append_known known xs) ys ≡ append_known known (xs ++ ys)
append_known-append_known None xs ys = refl
append_known-append_known (Some known) xs ys = ap Some (append_assoc known xs ys)

-- no piece written changes nothing
pub append_known-nil : (known : Option (List ℕ)) → append_known known [] ≡ known
append_known-nil None = refl
append_known-nil (Some known) = ap Some (append-nil known)

-- a piece was written, and then one behind it
pub written_more : (known now next : Option (List ℕ)) (bytes : List ℕ) (m n : ℕ) →
    now ≡ append_known known (take m bytes) → next ≡ append_known now (take n (take (length bytes - m) (drop m bytes))) →
    next ≡ append_known known (take (m + n) bytes)
written_more known now next bytes m n first second =
    let all : take (length bytes - m) (drop m bytes) ≡ drop m bytes = take_all _ (drop m bytes) (omega (arith, length-drop m bytes)) in
    let piece : next ≡ append_known now (take n (drop m bytes)) = second ∙ ap (λ rest. append_known now (take n rest)) all in
    let both : next ≡ append_known (append_known known (take m bytes)) (take n (drop m bytes)) =
    piece ∙ ap (λ w. append_known w (take n (drop m bytes))) first in
    both ∙ append_known-append_known known (take m bytes) (take n (drop m bytes)) ∙ ap (append_known known) (sym (take-add m n bytes))

one_of : (m n : ℕ) → (nat_lt 0 m || nat_lt 0 n) ≡ nat_lt 0 (m + n)
one_of m n = grind (arith, nat_tests)

pub unflushed_more : (before : Bool) (m n : ℕ) → ((before || nat_lt 0 m) || nat_lt 0 n) ≡ (before || nat_lt 0 (m + n))
unflushed_more before m n = or_assoc before (nat_lt 0 m) (nat_lt 0 n) ∙ ap (λ t. before || t) (one_of m n)
