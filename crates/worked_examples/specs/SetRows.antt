-- Worked examples of INTERSECT, LIMIT and the printed order.
use Rattle.std.specs.Prelude.{◌≡◌, ℕ, Bool, true, false, [], ◌∷◌, refl}
use Rattle.perm_values.specs.Rows.{printed_cmp}
use Rattle.perm_values.specs.declared.key.Key.{Key}
use Rattle.perm_values.specs.declared.value.Value.TheVariants.{Null}
use Rattle.bag_algebra.specs.Bags.{Bag, sorted}
use Rattle.bag_algebra.specs.Meaning.{Database, witnesses}
use Rattle.bag_algebra.specs.Means.{Held}
use Rattle.bag_algebra.specs.Outcome.{Good}
use Rattle.bag_algebra.specs.built.Patterns.{IntersectOf, LimitOf, ProvOf}
use Rattle.bag_algebra.specs.declared.query.Query.{Query}
use Rattle.worked_examples.specs.Queries.{num, x, y, z, holding, r, s, select_a, printed}

-- ---- INTERSECT [ALL]

-- 1 twice and 2 once in the left, 1 three times and 2 and 3 once in the right, and NULL twice and once
abbrev several : Database
several = holding
    ((num 1 ∷ x ∷ []) ∷ (num 1 ∷ y ∷ []) ∷ (num 2 ∷ z ∷ []) ∷ (Null ∷ x ∷ []) ∷ (Null ∷ y ∷ []) ∷ [])
    ((num 1 ∷ []) ∷ (num 3 ∷ []) ∷ (num 1 ∷ []) ∷ (num 1 ∷ []) ∷ (num 2 ∷ []) ∷ (Null ∷ []) ∷ [])

abbrev intersected : Bool → Query
intersected all = IntersectOf all (select_a r) (select_a s)

intersect-once : printed (intersected false) several ≡ Good ((num 1 ∷ []) ∷ (num 2 ∷ []) ∷ (Null ∷ []) ∷ [])
intersect-once = refl

intersect-all : printed (intersected true) several ≡ Good ((num 1 ∷ []) ∷ (num 1 ∷ []) ∷ (num 2 ∷ []) ∷ (Null ∷ []) ∷ [])
intersect-all = refl

-- SELECT PROVENANCE a FROM r INTERSECT SELECT c FROM s
intersect-traced :
    printed (ProvOf (intersected false)) (holding ((num 1 ∷ x ∷ []) ∷ (num 2 ∷ y ∷ []) ∷ []) ((num 1 ∷ []) ∷ (Null ∷ []) ∷ []))
    ≡ Good ((num 1 ∷ num 1 ∷ x ∷ num 1 ∷ []) ∷ [])
intersect-traced = refl

-- each list of the left beside each of the right
intersect-lists :
    witnesses (intersected true) (holding ((num 1 ∷ x ∷ []) ∷ (num 1 ∷ y ∷ []) ∷ []) ((num 1 ∷ []) ∷ (num 2 ∷ []) ∷ [])) [] (num 1 ∷ [])
    ≡ (Held (num 1 ∷ x ∷ []) ∷ Held (num 1 ∷ []) ∷ []) ∷ (Held (num 1 ∷ y ∷ []) ∷ Held (num 1 ∷ []) ∷ []) ∷ []
intersect-lists = refl

-- ---- the order: NULL is last, and first where the key descends; ties go by all columns

abbrev key : ℕ → Bool → Key
key place descending = record { place = place; descending = descending }

abbrev lettered : Bag
lettered = (num 1 ∷ x ∷ []) ∷ (num 2 ∷ y ∷ []) ∷ (num 3 ∷ Null ∷ []) ∷ []

-- SELECT a, b FROM r ORDER BY b DESC, 1
descending-order : sorted (printed_cmp (key 1 true ∷ key 0 false ∷ [])) lettered ≡ (num 3 ∷ Null ∷ []) ∷ (num 2 ∷ y ∷ []) ∷ (num 1 ∷ x ∷ []) ∷ []
descending-order = refl

ascending-order : sorted (printed_cmp (key 1 false ∷ [])) lettered ≡ lettered
ascending-order = refl

tied-order : sorted (printed_cmp (key 1 true ∷ [])) ((num 2 ∷ x ∷ []) ∷ (num 1 ∷ x ∷ []) ∷ (num 0 ∷ x ∷ []) ∷ [])
    ≡ (num 0 ∷ x ∷ []) ∷ (num 1 ∷ x ∷ []) ∷ (num 2 ∷ x ∷ []) ∷ []
tied-order = refl

-- ---- LIMIT

abbrev ties : Database
ties = holding ((num 1 ∷ y ∷ []) ∷ (num 2 ∷ x ∷ []) ∷ (num 1 ∷ x ∷ []) ∷ (num 1 ∷ x ∷ []) ∷ []) []

-- SELECT * FROM r ORDER BY b LIMIT 2, and with 3
limit-of_ties : printed (LimitOf r (key 1 false ∷ []) 2) ties ≡ Good ((num 1 ∷ x ∷ []) ∷ (num 1 ∷ x ∷ []) ∷ [])
limit-of_ties = refl

limit-behind_ties : printed (LimitOf r (key 1 false ∷ []) 3) ties ≡ Good ((num 1 ∷ x ∷ []) ∷ (num 1 ∷ x ∷ []) ∷ (num 2 ∷ x ∷ []) ∷ [])
limit-behind_ties = refl

limit-descending : printed (LimitOf r (key 1 true ∷ []) 1) ties ≡ Good ((num 1 ∷ y ∷ []) ∷ [])
limit-descending = refl

limit-beyond : printed (LimitOf s [] 9) (holding [] ((num 2 ∷ []) ∷ (num 1 ∷ []) ∷ [])) ≡ Good ((num 1 ∷ []) ∷ (num 2 ∷ []) ∷ [])
limit-beyond = refl

limit-nothing : printed (LimitOf r [] 0) ties ≡ Good []
limit-nothing = refl

-- a row that is taken has all its lists of the input, and one that isn't has none
limit-lists : witnesses (LimitOf (select_a r) [] 1) ties [] (num 1 ∷ [])
    ≡ (Held (num 1 ∷ y ∷ []) ∷ []) ∷ (Held (num 1 ∷ x ∷ []) ∷ []) ∷ (Held (num 1 ∷ x ∷ []) ∷ []) ∷ []
limit-lists = refl

limit-leaves_out : witnesses (LimitOf (select_a r) [] 1) ties [] (num 2 ∷ []) ≡ []
limit-leaves_out = refl

-- SELECT PROVENANCE a FROM r LIMIT 1: the limit is taken before the provenance
limit-traced : printed (ProvOf (LimitOf (select_a r) [] 1)) ties ≡ Good ((num 1 ∷ num 1 ∷ x ∷ []) ∷ (num 1 ∷ num 1 ∷ y ∷ []) ∷ [])
limit-traced = refl
