-- The rows of big, one more at a time.
use Rattle.std.proofs.Common.{◌≡◌, ◌∙◌, ℕ, suc, ◌+◌, List, [], ◌∷◌, ◌++◌, sym, ap, arith, append_assoc, append-nil}
use Rattle.std.specs.List.{flat_map, range_with_len}
use Rattle.std.proofs.lemmas.Grind.{flat_map-append}
use Rattle.perm_values.proofs.Ranges.{range-next}
use Rattle.perm_engine.specs.meaning.generation.Generated.{big_row, big_rows, comma}

abbrev pub line : ℕ → List ℕ
line place = comma place ++ big_row (place + 1)

rows_more : (n : ℕ) → big_rows (n + 1) ≡ big_rows n ++ line n
rows_more n =
    let one : n + 1 ≡ suc n = omega arith in
    let last : 0 + n ≡ n = omega arith in
    ap big_rows one ∙ ap (flat_map line) (range-next 0 n) ∙ flat_map-append line (range_with_len 0 n) ((0 + n) ∷ [])
    ∙ ap (λ rest. big_rows n ++ rest) (append-nil (line (0 + n)) ∙ ap line last)

-- the next row, behind its comma, joins those before it
pub next_row : (start now between after : List ℕ) (n : ℕ) → now ≡ start ++ big_rows n → between ≡ now ++ comma n → after ≡ between ++ big_row (n + 1)
    → after ≡ start ++ big_rows (n + 1)
next_row start now between after n before comma_is row_is =
    row_is ∙ ap (λ text. text ++ big_row (n + 1)) (comma_is ∙ ap (λ text. text ++ comma n) before)
    ∙ append_assoc (start ++ big_rows n) (comma n) (big_row (n + 1)) ∙ append_assoc start (big_rows n) (line n)
    ∙ ap (λ rows. start ++ rows) (sym (rows_more n))

-- ---- pieces laid one behind another

pub two_pieces : (start a b : List ℕ) → (start ++ a) ++ b ≡ start ++ (a ++ b)
two_pieces start a b = append_assoc start a b

pub five_pieces : (start a b c d e : List ℕ) → start ++ a ++ b ++ c ++ d ++ e ≡ start ++ (a ++ b ++ c ++ d ++ e)
five_pieces start a b c d e =
    ap (λ text. text ++ e) (ap (λ text. text ++ d) (ap (λ text. text ++ c) (append_assoc start a b) ∙ append_assoc start (a ++ b) c)
    ∙ append_assoc start (a ++ b ++ c) d) ∙ append_assoc start (a ++ b ++ c ++ d) e
