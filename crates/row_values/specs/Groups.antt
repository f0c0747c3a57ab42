-- Rows with the numbers of their classes.
use Rattle.std.specs.Prelude.{◌≡◌, ℕ, cond, nat_eq, List, [], ◌∷◌, map, Some}
use Rattle.std.specs.List.{slice_get}
use Rattle.perm_values.specs.Rows.{picked}
use Rattle.bag_algebra.specs.Bags.{Bag}
use Rattle.bag_algebra.specs.Means.{class_keys}

-- each row has the number of its group values among those of all classes
pub record IsClassed (groups : List ℕ) (us : Bag) (keys : Bag) (numbers : List ℕ) : Type 0 where
  pub classes : keys ≡ class_keys groups us
  pub found : map (slice_get keys) numbers ≡ map (λ u. Some (picked groups u)) us

-- the rows with a number
abbrev pub numbered : ℕ → List ℕ → Bag → Bag
numbered number [] us = []
numbered number (n ∷ numbers) [] = []
numbered number (n ∷ numbers) (u ∷ us) = cond (nat_eq n number) (u ∷ numbered number numbers us) (numbered number numbers us)
