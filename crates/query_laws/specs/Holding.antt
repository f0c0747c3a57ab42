-- What a bag holds, by its counts.
use Rattle.std.specs.Prelude.{◌≡◌, ◌↔◌, ◌<◌, ◌≤◌, ℕ, Bool, List, filter, length, sum_by}
use Rattle.bag_algebra.specs.Bags.{Row, Bag, count}

-- a row is in a bag where its count is above 0
abbrev pub InBag : Row → Bag → Type 0
InBag t us = 0 < count t us

-- the bag holds once each row of which P says so, and no other
pub record HoldsOnce (P : Row → Type 0) (ts : Bag) : Type 0 where
  pub once : (t : Row) → count t ts ≤ 1
  pub rows : (t : Row) → InBag t ts ↔ P t

-- the list has each row of the bag once, and no other: the bag's rows to sum over
abbrev pub Lists : List Row → Bag → Type 0
Lists rows us = HoldsOnce (λ u. InBag u us) rows

-- the sum, over the listed rows that pass the test, of their counts in the bag
abbrev pub counted_where : (Row → Bool) → Bag → List Row → ℕ
counted_where test us rows = sum_by (λ u. count u us) (filter test rows)

-- all rows of the bag have that many columns
abbrev pub HasWidth : ℕ → Bag → Type 0
HasWidth width us = (u : Row) → InBag u us → length u ≡ width
