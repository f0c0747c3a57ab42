-- Counts of a bag's rows, summed over a list that has each of its rows once.
use Rattle.std.proofs.Common.{◌≡◌, ℕ, zero, suc, ◌+◌, ◌*◌, Bool, true, false, cond, List, [], ◌∷◌, map, filter, sum_by, refl, sym, ap, ◌∙◌, arith}
use Rattle.std.proofs.Math.Nat.{zero-mul, suc-mul, one-mul, mul-one, mul-zero}
use Rattle.std.proofs.lemmas.List.Sums.{sum_by-cons}
use Rattle.std.specs.List.{flat_map}
use Rattle.perm_values.specs.Rows.{same_row}
use Rattle.bag_algebra.proofs.BagLaws.{same_row-is, same_row-sym, count-append}
use Rattle.bag_algebra.specs.Bags.{Row, Bag, count}
use Rattle.query_laws.specs.Holding.{InBag, Lists, counted_where}
use Rattle.query_laws.proofs.Once.{in_bag-behind, in_bag-front}

-- a row that passes counts once
abbrev pub one_if : Bool → ℕ
one_if b = cond b 1 0

-- ---- sums

pub sum_by-same : {X : Type 0} (f g : X → ℕ) (xs : List X) → ((x : X) → f x ≡ g x) → sum_by f xs ≡ sum_by g xs
sum_by-same f g xs e = λ i. sum_by (λ x. e x i) xs

pub sum_by-plus : {X : Type 0} (f g : X → ℕ) (xs : List X) → sum_by (λ x. f x + g x) xs ≡ sum_by f xs + sum_by g xs
sum_by-plus f g [] = refl
sum_by-plus f g (x ∷ xs) =
    omega (arith, sum_by-cons (λ y. f y + g y) x xs, sum_by-cons f x xs, sum_by-cons g x xs, sum_by-plus f g xs)

pub sum_by-none : {X : Type 0} (f : X → ℕ) (xs : List X) → ((x : X) → f x ≡ 0) → sum_by f xs ≡ 0
sum_by-none f [] e = refl
sum_by-none f (x ∷ xs) e = omega (arith, sum_by-cons f x xs, e x, sum_by-none f xs e)

filter-step : {X : Type 0} (b : Bool) (f : X → ℕ) (x : X) (xs : List X) (rest : ℕ) → sum_by f xs ≡ rest →
    sum_by f (cond b (x ∷ xs) xs) ≡ cond b (f x) 0 + rest
filter-step true f x xs rest e = omega (arith, sum_by-cons f x xs, e)
filter-step false f x xs rest e = omega (arith, e)

pub sum_by-filter : {X : Type 0} (f : X → ℕ) (test : X → Bool) (xs : List X) → sum_by f (filter test xs) ≡ sum_by (λ x. cond (test x) (f x) 0) xs
sum_by-filter f test [] = refl
sum_by-filter f test (x ∷ xs) =
    filter-step (test x) f x (filter test xs) (sum_by (λ y. cond (test y) (f y) 0) xs) (sum_by-filter f test xs)
    ∙ sym (sum_by-cons (λ y. cond (test y) (f y) 0) x xs)

scaled-step : (n a b c : ℕ) → n * b ≡ c → n * (a + b) ≡ n * a + c
scaled-step zero a b c e = omega (arith, zero-mul (a + b), zero-mul a, zero-mul b, e)
scaled-step (suc n) a b c e =
    omega (arith, suc-mul n (a + b), suc-mul n a, suc-mul n b, e, scaled-step n a b (n * b) refl)

pub sum_by-scaled : {X : Type 0} (n : ℕ) (f : X → ℕ) (xs : List X) → n * sum_by f xs ≡ sum_by (λ x. n * f x) xs
sum_by-scaled n f [] = mul-zero n
sum_by-scaled n f (x ∷ xs) =
    ap (λ s. n * s) (sum_by-cons f x xs) ∙ scaled-step n (f x) (sum_by f xs) (sum_by (λ y. n * f y) xs) (sum_by-scaled n f xs)
    ∙ sym (sum_by-cons (λ y. n * f y) x xs)

-- ---- counts as sums

pub count-flat_map : {X : Type 0} (t : Row) (f : X → Bag) (xs : List X) → count t (flat_map f xs) ≡ sum_by (λ x. count t (f x)) xs
count-flat_map t f [] = refl
count-flat_map t f (x ∷ xs) =
    omega (arith, count-append t (f x) (flat_map f xs), count-flat_map t f xs, sum_by-cons (λ y. count t (f y)) x xs)

pub one_more : (b : Bool) (n : ℕ) → cond b (suc n) n ≡ one_if b + n
one_more true n = omega arith
one_more false n = omega arith

pub count-map : {X : Type 0} (t : Row) (f : X → Row) (xs : List X) → count t (map f xs) ≡ sum_by (λ x. one_if (same_row (f x) t)) xs
count-map t f [] = refl
count-map t f (x ∷ xs) =
    one_more (same_row (f x) t) (count t (map f xs)) ∙ ap (λ n. one_if (same_row (f x) t) + n) (count-map t f xs)
    ∙ sym (sum_by-cons (λ y. one_if (same_row (f y) t)) x xs)

pub count-sum : (t : Row) (us : Bag) → count t us ≡ sum_by (λ u. one_if (same_row u t)) us
count-sum t [] = refl
count-sum t (u ∷ us) = one_more (same_row u t) (count t us) ∙ ap (λ n. one_if (same_row u t) + n) (count-sum t us) ∙ sym (sum_by-cons (λ v. one_if (same_row v t)) u us)

-- ---- each row once

-- the terms of the rows that are u: as many as u has
picked-step : (b : Bool) (g : Row → ℕ) (u d : Row) (n rest : ℕ) → same_row u d ≡ b → rest ≡ n * g u →
    cond (same_row u d) (g d) 0 + rest ≡ cond (same_row d u) (suc n) n * g u
picked-step true g u d n rest s e =
    rw (s, sym (same_row-sym u d) ∙ s) (omega (arith, ap g (same_row-is u d s), e, suc-mul n (g u)))
picked-step false g u d n rest s e = rw (s, sym (same_row-sym u d) ∙ s) (omega (arith, e))

terms_of : (g : Row → ℕ) (u : Row) (rows : Bag) → sum_by (λ d. cond (same_row u d) (g d) 0) rows ≡ count u rows * g u
terms_of g u [] = sym (zero-mul (g u))
terms_of g u (d ∷ rows) =
    sum_by-cons (λ w. cond (same_row u w) (g w) 0) d rows
    ∙ picked-step (same_row u d) g u d (count u rows) (sum_by (λ w. cond (same_row u w) (g w) 0) rows) refl (terms_of g u rows)

counted-step : (b : Bool) (n k : ℕ) → cond b (suc n) n * k ≡ cond b k 0 + n * k
counted-step true n k = omega (arith, suc-mul n k)
counted-step false n k = omega arith

-- a sum over the rows as they come is the sum over each row once, times its count
pub sum_by-weighed : (g : Row → ℕ) (rows us : Bag) → ((u : Row) → InBag u us → count u rows ≡ 1) →
    sum_by g us ≡ sum_by (λ d. count d us * g d) rows
sum_by-weighed g rows [] once = sym (sum_by-none (λ d. 0 * g d) rows (λ d. zero-mul (g d)))
sum_by-weighed g rows (u ∷ us) once =
    let further : sum_by g us ≡ sum_by (λ d. count d us * g d) rows = sum_by-weighed g rows us (λ w h. once w (in_bag-behind w u us h)) in
    let own : sum_by (λ d. cond (same_row u d) (g d) 0) rows ≡ g u = terms_of g u rows ∙ ap (λ n. n * g u) (once u (in_bag-front u us)) ∙ one-mul (g u) in
    let split : sum_by (λ d. count d (u ∷ us) * g d) rows ≡ sum_by (λ d. cond (same_row u d) (g d) 0) rows + sum_by (λ d. count d us * g d) rows =
    sum_by-same (λ d. count d (u ∷ us) * g d) (λ d. cond (same_row u d) (g d) 0 + count d us * g d) rows (λ d. counted-step (same_row u d) (count d us) (g d))
    ∙ sum_by-plus (λ d. cond (same_row u d) (g d) 0) (λ d. count d us * g d) rows in
    omega (arith, sum_by-cons g u us, further, own, split)

listed_once : (rows us : Bag) → Lists rows us → (u : Row) → InBag u us → count u rows ≡ 1
listed_once rows us l u h = omega (arith, l.once u, (l.rows u).1 h)

pub sum_by-listed : (g : Row → ℕ) (rows us : Bag) → Lists rows us → sum_by g us ≡ sum_by (λ d. count d us * g d) rows
sum_by-listed g rows us l = sum_by-weighed g rows us (listed_once rows us l)

pub unit-cond : (b : Bool) (n : ℕ) → n * one_if b ≡ cond b n 0
unit-cond true n = mul-one n
unit-cond false n = mul-zero n

-- how many rows pass, as they come
pub sum_by-passing : (test : Row → Bool) (rows us : Bag) → Lists rows us → sum_by (λ u. one_if (test u)) us ≡ counted_where test us rows
sum_by-passing test rows us l =
    sum_by-listed (λ u. one_if (test u)) rows us l
    ∙ sum_by-same (λ d. count d us * one_if (test d)) (λ d. cond (test d) (count d us) 0) rows (λ d. unit-cond (test d) (count d us))
    ∙ sym (sum_by-filter (λ d. count d us) test rows)
