-- Bags whose rows are all changed so that rows are the same exactly where they were before: what is made of them is changed likewise.
use Rattle.std.proofs.Common.{◌≡◌, Bool, true, false, cond, not, List, [], ◌∷◌, ◌++◌, map, filter, ◌||◌, refl, sym, ap, ◌∙◌}
use Rattle.std.proofs.lemmas.List.{map-append}
use Rattle.perm_values.specs.Rows.{same_row}
use Rattle.bag_algebra.specs.Bags.{Row, Bag, member, others, once, without_first, in_both, beyond, union_of, intersect_of, except_of}

pub map-cond : {X Y : Type 0} (f : X → Y) (b : Bool) (xs ys : List X) → cond b (map f xs) (map f ys) ≡ map f (cond b xs ys)
map-cond f true xs ys = refl
map-cond f false xs ys = refl

map-filter : {X Y : Type 0} (f : X → Y) (test : Y → Bool) (own : X → Bool) → ((x : X) → test (f x) ≡ own x) → (xs : List X)
    → filter test (map f xs) ≡ map f (filter own xs)
map-filter f test own same [] = refl
map-filter f test own same (x ∷ xs) =
    (λ i. cond (same x i) (f x ∷ map-filter f test own same xs i) (map-filter f test own same xs i))
    ∙ map-cond f (own x) (x ∷ filter own xs) (filter own xs)

module _ (f : Row → Row) (same : (u v : Row) → same_row (f u) (f v) ≡ same_row u v) where
  member-marked : (t : Row) (us : Bag) → member (f t) (map f us) ≡ member t us
  member-marked t [] = refl
  member-marked t (u ∷ us) = λ i. same u t i || member-marked t us i

  others-marked : (u : Row) (vs : Bag) → others (f u) (map f vs) ≡ map f (others u vs)
  others-marked u vs = map-filter f (λ v. not (same_row (f u) v)) (λ v. not (same_row u v)) (λ v. ap not (same u v)) vs

  pub once-marked : (us : Bag) → once (map f us) ≡ map f (once us)
  once-marked [] = refl
  once-marked (u ∷ us) = ap (λ vs. f u ∷ vs) (ap (others (f u)) (once-marked us) ∙ others-marked u (once us))

  without_first-marked : (t : Row) (us : Bag) → without_first (f t) (map f us) ≡ map f (without_first t us)
  without_first-marked t [] = refl
  without_first-marked t (u ∷ us) =
      (λ i. cond (same u t i) (map f us) (f u ∷ without_first-marked t us i)) ∙ map-cond f (same_row u t) us (u ∷ without_first t us)

  in_both-marked : (us vs : Bag) → in_both (map f us) (map f vs) ≡ map f (in_both us vs)
  in_both-marked [] vs = refl
  in_both-marked (u ∷ us) vs =
      let rest = ap (in_both (map f us)) (without_first-marked u vs) ∙ in_both-marked us (without_first u vs) in
      (λ i. cond (member-marked u vs i) (f u ∷ rest i) (in_both-marked us vs i))
      ∙ map-cond f (member u vs) (u ∷ in_both us (without_first u vs)) (in_both us vs)

  beyond-marked : (us vs : Bag) → beyond (map f us) (map f vs) ≡ map f (beyond us vs)
  beyond-marked [] vs = refl
  beyond-marked (u ∷ us) vs =
      let rest = ap (beyond (map f us)) (without_first-marked u vs) ∙ beyond-marked us (without_first u vs) in
      (λ i. cond (member-marked u vs i) (rest i) (f u ∷ beyond-marked us vs i))
      ∙ map-cond f (member u vs) (beyond us (without_first u vs)) (u ∷ beyond us vs)

  pub union-marked : (all : Bool) (us vs : Bag) → union_of all (map f us) (map f vs) ≡ map f (union_of all us vs)
  union-marked true us vs = sym (map-append f us vs)
  union-marked false us vs = ap once (sym (map-append f us vs)) ∙ once-marked (us ++ vs)

  pub intersect-marked : (all : Bool) (us vs : Bag) → intersect_of all (map f us) (map f vs) ≡ map f (intersect_of all us vs)
  intersect-marked true us vs = in_both-marked us vs
  intersect-marked false us vs =
      ap once (map-filter f (λ u. member u (map f vs)) (λ u. member u vs) (λ u. member-marked u vs) us) ∙ once-marked (filter (λ u. member u vs) us)

  pub except-marked : (all : Bool) (us vs : Bag) → except_of all (map f us) (map f vs) ≡ map f (except_of all us vs)
  except-marked true us vs = beyond-marked us vs
  except-marked false us vs =
      ap once (map-filter f (λ u. not (member u (map f vs))) (λ u. not (member u vs)) (λ u. ap not (member-marked u vs)) us)
      ∙ once-marked (filter (λ u. not (member u vs)) us)
