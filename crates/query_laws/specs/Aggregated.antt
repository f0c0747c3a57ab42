-- What aggregate functions are over: the values of a list, by how often they stand in it.
use Rattle.std.specs.Prelude.{◌≡◌, ◌≢◌, ◌↔◌, ◌<◌, ◌≤◌, ℕ, false, List, count_by, Contains}
use Rattle.std.specs.Ordering.{is_gt, is_lt}
use Rattle.perm_values.specs.Values.{same_value, value_cmp}
use Rattle.perm_values.specs.declared.value.Value.{Value}
use Rattle.perm_values.specs.declared.value.Value.TheVariants.{Null}

abbrev pub occurrences : Value → List Value → ℕ
occurrences v vs = count_by (λ w. same_value w v) vs

-- the list has each value of the other that isn't NULL once, and no other
pub record ListsValues (distinct vs : List Value) : Type 0 where
  pub once : (v : Value) → occurrences v distinct ≤ 1
  pub values : (v : Value) → (0 < occurrences v distinct) ↔ ((v ≢ Null) × (0 < occurrences v vs))

-- one of the values, and none comes before it
pub record IsLeast (v : Value) (vs : List Value) : Type 0 where
  pub among : Contains vs v
  pub first : (w : Value) → Contains vs w → is_gt (value_cmp v w) ≡ false

-- one of the values, and none comes behind it
pub record IsGreatest (v : Value) (vs : List Value) : Type 0 where
  pub among : Contains vs v
  pub last : (w : Value) → Contains vs w → is_lt (value_cmp v w) ≡ false
