-- Where the tokens of a script stand.
use Rattle.std.proofs.Common.{◌≡◌, ◌≤◌, ◌<◌, ℕ, ◌+◌, ◌-◌, List, [], ◌∷◌, ◌++◌, length, take, drop, sym, ap, subst, ◌∙◌, arith}
use Rattle.std.specs.List.{AllByRecursion}
use Rattle.std.proofs.lemmas.List.{length-append, length-drop, drop-drop}
use Rattle.std.proofs.Math.Seq.{take-append_seam, drop-append_seam}
use Rattle.sql_lexer.specs.declared.token.Token.{Token}
use Rattle.sql_lexer.specs.Lexes.{Spells, IsToken, blank, comment, token, LexesTo, nothing, piece}
use Rattle.sql_lexer.specs.Printing.{IsSpanned, Rises}
use Rattle.sql_lexer.proofs.OneReading.{token_some}

lower : (a b : ℕ) (tokens : List Token) → a ≤ b → Rises b tokens → Rises a tokens
lower a b [] le r = tt
lower a b (t ∷ tokens) le r = (omega (arith, r.0), r.1)

pub rises : {at stop : ℕ} {text rest : List ℕ} {tokens : List Token} → LexesTo at text tokens stop rest → Rises at tokens
rises nothing = tt
rises (piece {at = at} {bytes = bytes} {tokens = tokens} e (blank is) d) = lower at (at + length bytes) tokens (omega arith) (rises d)
rises (piece {at = at} {bytes = bytes} {tokens = tokens} e (comment all stop) d) = lower at (at + length bytes) tokens (omega arith) (rises d)
rises (piece {at = at} {bytes = bytes} {tokens = tokens} e (token {token = t} is stop) d) =
    (omega (arith, is.start), subst (λ n. Rises n tokens) (sym is.end) (rises d))

-- what is left behind a piece
onward : (whole : List ℕ) (at : ℕ) (text bytes more : List ℕ) → drop at whole ≡ text → text ≡ bytes ++ more → drop (at + length bytes) whole ≡ more
onward whole at text bytes more is e = sym (drop-drop (length bytes) at whole) ∙ ap (drop (length bytes)) (is ∙ e) ∙ drop-append_seam bytes more

span : (whole : List ℕ) (at : ℕ) (bytes more : List ℕ) (t : Token) → drop at whole ≡ bytes ++ more → 0 < length bytes → IsToken at bytes t → IsSpanned whole t
span whole at bytes more t is some p =
    let len : t.end - t.start ≡ length bytes = omega (arith, p.start, p.end) in
    let slice : take (t.end - t.start) (drop t.start whole) ≡ bytes =
    ap (λ n. take n (drop t.start whole)) len ∙ ap (λ n. take (length bytes) (drop n whole)) p.start ∙ ap (take (length bytes)) is ∙ take-append_seam bytes more in
    record {
      some = omega (arith, p.start, p.end);
      within = omega (arith, p.end, ap length is, length-drop at whole, length-append bytes more);
      spells = subst (λ text. Spells t.kind text t.spelled t.number) (sym slice) p.spells;
    }

pub spanned : (whole : List ℕ) {at stop : ℕ} {text rest : List ℕ} {tokens : List Token} → LexesTo at text tokens stop rest → drop at whole ≡ text
    → AllByRecursion (IsSpanned whole) tokens
spanned whole nothing is = tt
spanned whole (piece {at = at} {text = text} {bytes = bytes} {more = more} e (blank p) d) is = spanned whole d (onward whole at text bytes more is e)
spanned whole (piece {at = at} {text = text} {bytes = bytes} {more = more} e (comment all stop) d) is = spanned whole d (onward whole at text bytes more is e)
spanned whole (piece {at = at} {text = text} {bytes = bytes} {more = more} e (token {token = t} p stop) d) is =
    (span whole at bytes more t (is ∙ e) (token_some bytes t p) p, spanned whole d (onward whole at text bytes more is e))
