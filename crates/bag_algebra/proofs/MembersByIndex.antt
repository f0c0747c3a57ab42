-- What is in a list stands at an index of it.
use Rattle.std.proofs.Common.{◌≡◌, ℕ, zero, suc, ◌<◌, inl, inr, List, [], ◌∷◌, length, slice_index_or, All, Contains, refl, subst, arith}
use Rattle.bag_algebra.proofs.Members.{IsIn}

pub in-from_contains : {X : Type 0} (x : X) (xs : List X) → Contains xs x → IsIn x xs
in-from_contains x xs c = by_index xs c.0 c.1 c.2 where
  by_index : {X : Type 0} {x : X} (xs : List X) (k : ℕ) → k < length xs → slice_index_or xs k x ≡ x → IsIn x xs
  by_index [] k h e = absurd (omega arith)
  by_index (y ∷ ys) zero h e = inl e
  by_index (y ∷ ys) (suc k) h e = inr (by_index ys k (omega arith) e)

pub contains-from_in : {X : Type 0} (x : X) (xs : List X) → IsIn x xs → Contains xs x
contains-from_in x [] h = absurd h
contains-from_in x (y ∷ ys) (inl e) = (zero, omega arith, e)
contains-from_in x (y ∷ ys) (inr h) = let found = contains-from_in x ys h in (suc found.0, omega arith, found.2)

pub in-at : {X : Type 0} (xs : List X) (k : ℕ) (d : X) → k < length xs → IsIn (slice_index_or xs k d) xs
in-at [] k d h = absurd (omega arith)
in-at (x ∷ xs) zero d h = inl refl
in-at (x ∷ xs) (suc k) d h = inr (in-at xs k d (omega arith))

pub all-from_in : {X : Type 0} (P : X → Type 0) (xs : List X) → ((x : X) → IsIn x xs → P x) → All P xs
all-from_in P xs f k d h = f (slice_index_or xs k d) (in-at xs k d h)

-- what holds of each by index holds of each member
pub all-at : {X : Type 0} (P : X → Type 0) (xs : List X) (x : X) → All P xs → IsIn x xs → P x
all-at P xs x all h = let found = contains-from_in x xs h in subst P found.2 (all found.0 x found.1)
