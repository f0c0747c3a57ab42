-- Bags of rows. A list stands for the bag that counts its rows: two lists are the same bag where every row has
-- the same count in both.
use Rattle.std.specs.Prelude.{◌≡◌, ℕ, suc, zero, Bool, cond, not, List, [], ◌∷◌, ◌++◌, filter}
use Rattle.std.specs.List.{list_any}
use Rattle.std.specs.Ordering.{is_gt}
use Rattle.std.specs.declared.cmp.Ordering.{Ordering}
use Rattle.perm_values.specs.Rows.{same_row}
use Rattle.perm_values.specs.declared.value.Value.{Value}
use Rattle.perm_values.specs.declared.value.Value.TheVariants.{Null}

abbrev pub Row : Type 0
Row = List Value

abbrev pub Bag : Type 0
Bag = List Row

-- how often the row is in the bag
abbrev pub count : Row → Bag → ℕ
count t [] = 0
count t (u ∷ us) = cond (same_row u t) (suc (count t us)) (count t us)

abbrev pub member : Row → Bag → Bool
member t us = list_any (λ u. same_row u t) us

-- one bag
pub record SameBag (us vs : Bag) : Type 0 where
  pub counts : (t : Row) → count t us ≡ count t vs

-- the rows that are not `same` as u
abbrev pub others : Row → Bag → Bag
others u us = filter (λ v. not (same_row u v)) us

-- each row once, where it comes first
abbrev pub once : Bag → Bag
once [] = []
once (u ∷ us) = u ∷ others u (once us)

-- without the first row that is `same` as t
abbrev pub without_first : Row → Bag → Bag
without_first t [] = []
without_first t (u ∷ us) = cond (same_row u t) us (u ∷ without_first t us)

-- as often as in both (INTERSECT ALL)
abbrev pub in_both : Bag → Bag → Bag
in_both [] vs = []
in_both (u ∷ us) vs = cond (member u vs) (u ∷ in_both us (without_first u vs)) (in_both us vs)

-- as often as in the left beyond the right (EXCEPT ALL)
abbrev pub beyond : Bag → Bag → Bag
beyond [] vs = []
beyond (u ∷ us) vs = cond (member u vs) (beyond us (without_first u vs)) (u ∷ beyond us vs)

abbrev pub union_of : Bool → Bag → Bag → Bag
union_of all us vs = cond all (us ++ vs) (once (us ++ vs))

abbrev pub intersect_of : Bool → Bag → Bag → Bag
intersect_of all us vs = cond all (in_both us vs) (once (filter (λ u. member u vs) us))

abbrev pub except_of : Bool → Bag → Bag → Bag
except_of all us vs = cond all (beyond us vs) (once (filter (λ u. not (member u vs)) us))

-- the row at its place in an ordered list, behind the rows that it ties with
abbrev pub placed : {X : Type 0} → (X → X → Ordering) → X → List X → List X
placed cmp t [] = t ∷ []
placed cmp t (u ∷ us) = cond (is_gt (cmp t u)) (u ∷ placed cmp t us) (t ∷ u ∷ us)

abbrev pub sorted : {X : Type 0} → (X → X → Ordering) → List X → List X
sorted cmp [] = []
sorted cmp (u ∷ us) = placed cmp u (sorted cmp us)

-- NULLs, as many
abbrev pub nulls : ℕ → Row
nulls zero = []
nulls (suc n) = Null ∷ nulls n
