-- Flags of the rows of a list: which of them are left out, each by the rows before it.
use Rattle.std.specs.Borrow.{Bor}
use Rattle.std.specs.Prelude.{◌≡◌, ℕ, Bool, cond, not, ◌||◌, nat_lt, List, [], ◌∷◌, ◌++◌, unwrap_or}
use Rattle.std.specs.List.{list_any}
use Rattle.std.specs.Map.{lookup}
use Rattle.perm_values.specs.Rows.{same_row}
use Rattle.bag_algebra.specs.Bags.{Row, Bag, count, member}

abbrev pub marks_behind : (Bag → Row → Bool) → Bag → Bag → List Bool
marks_behind test earlier [] = []
marks_behind test earlier (u ∷ us) = test earlier u ∷ marks_behind test (earlier ++ u ∷ []) us

abbrev pub marks_by : (Bag → Row → Bool) → Bag → List Bool
marks_by test us = marks_behind test [] us

-- a row that isn't wanted, or stood before
abbrev pub left_out : (Row → Bool) → Bag → Row → Bool
left_out wanted earlier u = not (wanted u) || member u earlier

-- the rows that the other side has, or those that it lacks
abbrev pub wanted : Bool → Bag → Row → Bool
wanted common vs u = cond common (member u vs) (not (member u vs))

-- a row that meets no row of the other side of its own, or one that does
abbrev pub is_over : Bool → Bag → Bag → Row → Bool
is_over common vs earlier u = cond common (not (nat_lt (count u earlier) (count u vs))) (nat_lt (count u earlier) (count u vs))

-- the keys of a set of borrowed rows are those of the bag
pub record Holds (keys : List (Bor Row)) (us : Bag) : Type 0 where
  pub members : (t : Row) → list_any (λ (r : Bor Row). same_row t r.now) keys ≡ member t us

-- a map from borrowed rows has these numbers, 0 where it has no entry
pub record Numbers (entries : List (Bor Row × ℕ)) (number : Row → ℕ) : Type 0 where
  pub numbers : (t : Bor Row) → unwrap_or (lookup (λ (r : Bor Row). same_row t.now r.now) entries) 0 ≡ number t.now
