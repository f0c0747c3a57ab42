-- The order by which the least value is looked for, or the greatest.
use Rattle.std.specs.Prelude.{ℕ, Bool, cond, not, ◌&&◌, ◌||◌, nat_le, List, length}
use Rattle.std.specs.Ordering.{ordering_reverse, is_gt}
use Rattle.std.specs.declared.cmp.Ordering.{Ordering}
use Rattle.perm_values.specs.Rows.{value_at}
use Rattle.perm_values.specs.Values.{value_cmp, is_null}
use Rattle.perm_values.specs.declared.value.Value.{Value}

abbrev pub order_of : Bool → Value → Value → Ordering
order_of greatest v w = cond greatest (ordering_reverse (value_cmp v w)) (value_cmp v w)

-- a value that isn't NULL and comes no later than the best one, if there is one
abbrev pub takes_over : Bool → List Value → ℕ → ℕ → Bool
takes_over greatest vs at best =
    not (is_null (value_at vs at)) && (nat_le (length vs) best || not (is_gt (order_of greatest (value_at vs at) (value_at vs best))))
