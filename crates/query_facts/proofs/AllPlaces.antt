-- The places of all columns, found one by one.
use Rattle.std.proofs.Common.{◌≡◌, ◌≢◌, ℕ, ◌+◌, ◌<◌, ◌≤◌, Bool, true, false, List, length, get_or, nat_eq, refl, sym, ap, ◌∙◌, arith}
use mathlib.Core.Bool.{true≢false}
use Rattle.std.specs.Bool.{Decides}
use Rattle.std.specs.Cmp.Lexicographic.{pointwise_decides}
use Rattle.std.specs.List.{range_with_len}
use Rattle.std.proofs.lemmas.Bool.{eqb-true, eq-eqb}
use Rattle.std.proofs.lemmas.List.FromFn.{length-range_with_len, get_or-range_with_len, fill_by_all}
use Rattle.std.proofs.lemmas.List.{map-id}
use Rattle.query_facts.specs.monotone.Monotone.{are_all_places}

pub all_places-decides : (width : ℕ) (places : List ℕ) → Decides (are_all_places width places) (places ≡ range_with_len 0 width)
all_places-decides width places = pointwise_decides (λ a b. (eqb-true a b, eq-eqb a b)) places (range_with_len 0 width)

refuted : {P : Type 0} (b : Bool) → Decides b P → (P → ⊥) → false ≡ b
refuted true d f = absurd (f (d.0 refl))
refuted false d f = refl

from_zero : (n : ℕ) → 0 + n ≡ n
from_zero n = omega arith

-- a place that is another column's
pub another_place : (width : ℕ) (places : List ℕ) (at d : ℕ) → at < length places → get_or places at d ≢ at → false ≡ are_all_places width places
another_place width places at d within other =
    refuted (are_all_places width places) (all_places-decides width places) (λ are.
    let long : length places ≡ width = ap length are ∙ length-range_with_len 0 width in
    let within' : at < width = omega (arith, within, long) in
    other (ap (λ ps. get_or ps at d) are ∙ get_or-range_with_len 0 width at d within' ∙ from_zero at))

-- as many as there are columns
pub so_many : (width n : ℕ) (places : List ℕ) → places ≡ range_with_len 0 n → nat_eq n width ≡ are_all_places width places
so_many width n places are = by (nat_eq n width) refl where
  by : (b : Bool) → nat_eq n width ≡ b → b ≡ are_all_places width places
  by true e = sym ((all_places-decides width places).1 (are ∙ ap (range_with_len 0) (eqb-true n width e)))
  by false e =
      refuted (are_all_places width places) (all_places-decides width places) (λ whole.
      let same : n ≡ width = sym (length-range_with_len 0 n) ∙ ap length (sym are ∙ whole) ∙ length-range_with_len 0 width in
      true≢false (sym (eq-eqb n width same) ∙ e))

-- each place is that of its column
pub in_order : (places : List ℕ) (at : ℕ) → length places ≤ at → ((k : ℕ) → k < at → get_or places k 0 ≡ k) → places ≡ range_with_len 0 (length places)
in_order places at long h =
    fill_by_all (λ k. k) places (length places) 0 refl (λ k i. h k (omega (arith, i, long))) ∙ map-id (range_with_len 0 (length places))
