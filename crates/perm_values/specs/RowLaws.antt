-- The orders of rows are total, and tie nothing but equal rows.
use Rattle.std.specs.Prelude.{◌≡◌, ℕ, Bool, true, false, cond, List, [], ◌∷◌}
use Rattle.std.specs.Bool.{Decides}
use Rattle.std.specs.Cmp.{IsTotalOrder, on_total, then_total, back_total, Equal-is}
use Rattle.std.specs.Cmp.Lexicographic.{lists_total, lists_ties}
use Rattle.std.specs.Ordering.{on, flip_args, ordering_then, ordering_reverse}
use Rattle.std.specs.declared.cmp.Ordering.{Ordering}
use Rattle.std.specs.declared.cmp.Ordering.TheVariants.{Less, Equal, Greater}
use Rattle.std.proofs.Common.{sym, subst}
use Rattle.perm_values.specs.Rows.{same_row, row_cmp, value_at, key_cmp, printed_cmp}
use Rattle.perm_values.specs.ValueLaws.{row_decides, value_cmp_total, value_ties}
use Rattle.perm_values.specs.Values.{same_value, value_cmp}
use Rattle.perm_values.specs.declared.key.Key.{Key}
use Rattle.perm_values.specs.declared.value.Value.{Value}

pub row_cmp_total : IsTotalOrder row_cmp
row_cmp_total = lists_total value_cmp_total

pub value_ties_decided : (x y : Value) → Decides (same_value x y) (value_cmp x y ≡ Equal)
value_ties_decided x y = subst (λ t. Decides t (value_cmp x y ≡ Equal)) (sym (value_ties x y)) (Equal-is (value_cmp x y))

pub row_ties_decided : (u v : List Value) → Decides (same_row u v) (row_cmp u v ≡ Equal)
row_ties_decided u v = subst (λ t. Decides t (row_cmp u v ≡ Equal)) (sym (lists_ties value_cmp value_ties u v)) (Equal-is (row_cmp u v))

abbrev at_key : ℕ → List Value → List Value → Ordering
at_key place = on (λ u. value_at u place) value_cmp

at_key_total : (place : ℕ) → IsTotalOrder (at_key place)
at_key_total place = on_total (λ u. value_at u place) value_cmp_total

turned_total : (place : ℕ) → IsTotalOrder (λ u v. ordering_reverse (at_key place u v))
turned_total place =
    let e : flip_args (at_key place) ≡ (λ u v. ordering_reverse (at_key place u v)) = λ i u v. (at_key_total place).antisymm v u i in
    subst IsTotalOrder e (back_total (at_key_total place))

by_direction : (place : ℕ) (descending : Bool) → IsTotalOrder (λ u v. cond descending (ordering_reverse (at_key place u v)) (at_key place u v))
by_direction place true = turned_total place
by_direction place false = at_key_total place

pub printed_total : (keys : List Key) → IsTotalOrder (printed_cmp keys)
printed_total [] = row_cmp_total
printed_total (key ∷ keys) = then_total (by_direction key.place key.descending) (printed_total keys)

second_equal : (o p : Ordering) → ordering_then o p ≡ Equal → p ≡ Equal
second_equal Less p e = cc
second_equal Equal p e = e
second_equal Greater p e = cc

pub printed_ties : (keys : List Key) (u v : List Value) → printed_cmp keys u v ≡ Equal → u ≡ v
printed_ties [] u v e = (row_decides u v).0 ((row_ties_decided u v).1 e)
printed_ties (key ∷ keys) u v e = printed_ties keys u v (second_equal (key_cmp key u v) (printed_cmp keys u v) e)
