-- Tests of pairs by the side that decides: all are true where those of the left row, those of the right row and the others are.
use Rattle.std.proofs.Common.{◌≡◌, ℕ, zero, suc, ◌+◌, ◌≤◌, ◌<◌, nat_lt, Bool, true, false, cond, not, ◌&&◌, List, [], ◌∷◌, ◌++◌, length, filter, map, slice_index_or, append-nil, refl, sym, ap, ◌∙◌, true≢false, arith}
use Rattle.std.specs.Prelude.{slice_get}
use Rattle.std.proofs.lemmas.Bool.Decides.{nat_tests}
use Rattle.std.proofs.lemmas.List.{map-append}
use Rattle.std.proofs.lemmas.List.Elements.{All-append}
use Rattle.std.specs.List.{list_all, range_with_len}
use Rattle.perm_values.specs.Rows.{picked, value_at, PlacesWithin}
use Rattle.perm_values.specs.declared.kind.Kind.{Kind}
use Rattle.perm_values.specs.declared.kind.Kind.TheVariants as kind
use Rattle.perm_values.specs.declared.value.Value.TheVariants.{Null}
use Rattle.bag_algebra.proofs.Truths.{left-true, right-true, both-true, and_turn}
use Rattle.bag_algebra.specs.Bags.{Row}
use Rattle.bag_algebra.specs.Expressions.{value}
use Rattle.bag_algebra.specs.FaultFree.{faultless}
use Rattle.bag_algebra.specs.Kinds.{kind_in, kinds_in}
use Rattle.bag_algebra.specs.Means.{is_met}
use Rattle.bag_algebra.specs.WellFormed.{HasKind}
use Rattle.bag_algebra.specs.built.FaultFree.{all_parts_faultless}
use Rattle.bag_algebra.specs.built.Forms.{AllHave}
use Rattle.bag_algebra.specs.declared.expr.Expr.{Expr}
use Rattle.contribution.proofs.ColumnQueries.{all-nothing, all-first}
use Rattle.contribution.proofs.WhereGood.{Every}
use Rattle.contribution.specs.MovedColumns.{IsMoved, PartsMoved}
use Rattle.rewrite_core.proofs.Places.{at-between, within-range}
use Rattle.simpler_laws.proofs.Reading.{value-read, kind-read}
use Rattle.simpler_laws.specs.Reads.{reads_only}
use Rattle.simpler_laws.specs.Sides.{is_left, is_right, is_right_alone, right_places, zeros}
use Rattle.simpler_laws.specs.Tested.{hold}

-- ---- three parts of a list

to-first : (m a b c : Bool) → (m && (a && (b && c))) ≡ ((m && a) && (b && c))
to-first true a b c = refl
to-first false a b c = refl

to-second : (m a b c : Bool) → (m && (a && (b && c))) ≡ (a && ((m && b) && c))
to-second true a b c = refl
to-second false true b c = refl
to-second false false b c = refl

to-third : (m a b c : Bool) → (m && (a && (b && c))) ≡ (a && (b && (m && c)))
to-third true a b c = refl
to-third false true true c = refl
to-third false true false c = refl
to-third false false b c = refl

module _ {X : Type 0} (holds : X → Bool) where
  one-part : (b g : Bool) (x : X) (ls rs os : List X) (rest : Bool) → rest ≡ (list_all holds ls && (list_all holds rs && list_all holds os)) →
      (holds x && rest)
      ≡ (list_all holds (cond b (x ∷ ls) ls) && (list_all holds (cond (not b && g) (x ∷ rs) rs) && list_all holds (cond (not b && not g) (x ∷ os) os)))
  one-part true g x ls rs os rest e = ap (λ c. holds x && c) e ∙ to-first (holds x) (list_all holds ls) (list_all holds rs) (list_all holds os)
  one-part false true x ls rs os rest e = ap (λ c. holds x && c) e ∙ to-second (holds x) (list_all holds ls) (list_all holds rs) (list_all holds os)
  one-part false false x ls rs os rest e = ap (λ c. holds x && c) e ∙ to-third (holds x) (list_all holds ls) (list_all holds rs) (list_all holds os)

  pub three-parts : (l r : X → Bool) (xs : List X) →
      list_all holds xs
      ≡ (list_all holds (filter l xs) && (list_all holds (filter (λ x. not (l x) && r x) xs) && list_all holds (filter (λ x. not (l x) && not (r x)) xs)))
  three-parts l r [] = refl
  three-parts l r (x ∷ xs) =
      one-part (l x) (r x) x (filter l xs) (filter (λ y. not (l y) && r y) xs) (filter (λ y. not (l y) && not (r y)) xs) (list_all holds xs) (three-parts l r xs)

-- ---- two parts of a list

to-front : (m a b : Bool) → (m && (a && b)) ≡ ((m && a) && b)
to-front true a b = refl
to-front false a b = refl

module _ {X : Type 0} (holds : X → Bool) where
  one-half : (b : Bool) (x : X) (fs os : List X) (rest : Bool) → rest ≡ (list_all holds fs && list_all holds os) →
      (holds x && rest) ≡ (list_all holds (cond b (x ∷ fs) fs) && list_all holds (cond (not b) (x ∷ os) os))
  one-half true x fs os rest e = ap (λ c. holds x && c) e ∙ to-front (holds x) (list_all holds fs) (list_all holds os)
  one-half false x fs os rest e = ap (λ c. holds x && c) e ∙ and_turn (holds x) (list_all holds fs) (list_all holds os)

  pub two-halves : (f : X → Bool) (xs : List X) → list_all holds xs ≡ (list_all holds (filter f xs) && list_all holds (filter (λ x. not (f x)) xs))
  two-halves f [] = refl
  two-halves f (x ∷ xs) = one-half (f x) x (filter f xs) (filter (λ y. not (f y)) xs) (list_all holds xs) (two-halves f xs)

-- what passes a test has it
passed-put : {X : Type 0} (test : X → Bool) (x : X) (xs : List X) (b : Bool) → test x ≡ b → Every (λ y. test y ≡ true) xs → Every (λ y. test y ≡ true) (cond b (x ∷ xs) xs)
passed-put test x xs true e h = (e, h)
passed-put test x xs false e h = h

pub passed : {X : Type 0} (test : X → Bool) (xs : List X) → Every (λ x. test x ≡ true) (filter test xs)
passed test [] = tt
passed test (x ∷ xs) = passed-put test x (filter test xs) (test x) refl (passed test xs)

-- what all have, those have that pass
faultless-put : (e : Expr) (es : List Expr) (b : Bool) → faultless e ≡ true → all_parts_faultless es ≡ true → all_parts_faultless (cond b (e ∷ es) es) ≡ true
faultless-put e es true h k = both-true (faultless e) (all_parts_faultless es) h k
faultless-put e es false h k = k

pub faultless-passed : (test : Expr → Bool) (es : List Expr) → all_parts_faultless es ≡ true → all_parts_faultless (filter test es) ≡ true
faultless-passed test [] h = refl
faultless-passed test (e ∷ es) h =
    faultless-put e (filter test es) (test e) (left-true (faultless e) (all_parts_faultless es) h)
    (faultless-passed test es (right-true (faultless e) (all_parts_faultless es) h))

pub faultless-moved : (order : List ℕ) (es ps : List Expr) → PartsMoved order es ps → all_parts_faultless es ≡ true → all_parts_faultless ps ≡ true
faultless-moved order [] [] m h = refl
faultless-moved order [] (p ∷ ps) m h = absurd m
faultless-moved order (e ∷ es) [] m h = absurd m
faultless-moved order (e ∷ es) (p ∷ ps) m h =
    both-true (faultless p) (all_parts_faultless ps) (m.0.faultless ∙ left-true (faultless e) (all_parts_faultless es) h)
    (faultless-moved order es ps m.1 (right-true (faultless e) (all_parts_faultless es) h))

module _ (scopes : List (List Kind)) (subs : List Kind) (k : Kind) where
  have-put : (e : Expr) (es : List Expr) (b : Bool) → HasKind scopes subs e k → AllHave scopes subs es k → AllHave scopes subs (cond b (e ∷ es) es) k
  have-put e es true h g = (h, g)
  have-put e es false h g = g

  pub have-passed : (test : Expr → Bool) (es : List Expr) → AllHave scopes subs es k → AllHave scopes subs (filter test es) k
  have-passed test [] h = tt
  have-passed test (e ∷ es) h = have-put e (filter test es) (test e) h.0 (have-passed test es h.1)

-- ---- places of a side

below : (a b : ℕ) → nat_lt a b ≡ true → a < b
below a b h = grind (arith, nat_tests)

not-below : (a b : ℕ) → not (nat_lt a b) ≡ true → b ≤ a
not-below a b h = grind (arith, nat_tests)

module _ {X : Type 0} where
  get-front : (xs ys : List X) (place : ℕ) → place < length xs → slice_get (xs ++ ys) place ≡ slice_get xs place
  get-front [] ys place h = absurd (omega (arith, h))
  get-front (x ∷ xs) ys zero h = refl
  get-front (x ∷ xs) ys (suc place) h = get-front xs ys place (omega (arith, h))

  get-behind : (xs ys zs : List X) (place : ℕ) → length xs ≡ length ys → length xs ≤ place → slice_get (xs ++ zs) place ≡ slice_get (ys ++ zs) place
  get-behind [] [] zs place e h = refl
  get-behind [] (y ∷ ys) zs place e h = absurd (omega (arith, e))
  get-behind (x ∷ xs) [] zs place e h = absurd (omega (arith, e))
  get-behind (x ∷ xs) (y ∷ ys) zs zero e h = absurd (omega (arith, h))
  get-behind (x ∷ xs) (y ∷ ys) zs (suc place) e h = get-behind xs ys zs place (omega (arith, e)) (omega (arith, h))

value-front : (u v : Row) (place : ℕ) → place < length u → value_at (u ++ v) place ≡ value_at u place
value-front [] v place h = absurd (omega (arith, h))
value-front (a ∷ u) v zero h = refl
value-front (a ∷ u) v (suc place) h = value-front u v place (omega (arith, h))

value-behind : (u w v : Row) (place : ℕ) → length u ≡ length w → length u ≤ place → value_at (u ++ v) place ≡ value_at (w ++ v) place
value-behind [] [] v place e h = refl
value-behind [] (b ∷ w) v place e h = absurd (omega (arith, e))
value-behind (a ∷ u) [] v place e h = absurd (omega (arith, e))
value-behind (a ∷ u) (b ∷ w) v zero e h = absurd (omega (arith, h))
value-behind (a ∷ u) (b ∷ w) v (suc place) e h = value-behind u w v place (omega (arith, e)) (omega (arith, h))

all-places : {X : Type 0} (d : X) (xs : List X) (n : ℕ) → length xs ≡ n → map (λ place. slice_index_or xs place d) (range_with_len 0 n) ≡ xs
all-places d xs n e =
    ap (λ whole. map (λ place. slice_index_or whole place d) (range_with_len 0 n)) (sym (append-nil xs)) ∙ at-between d [] xs [] 0 n refl e

length-zeros : {X : Type 0} (f : ℕ → X) (n : ℕ) → length (map f (zeros n)) ≡ n
length-zeros f zero = refl
length-zeros f (suc n) = ap suc (length-zeros f n)

zeros-within : (n width : ℕ) → 0 < width → PlacesWithin width (zeros n)
zeros-within zero width h = all-nothing (λ place. place < width)
zeros-within (suc n) width h = all-first (λ place. place < width) 0 (zeros n) h (zeros-within n width h)

pub right-within : (left right : ℕ) → 0 < right → PlacesWithin right (right_places left right)
right-within left right h = All-append (λ place. place < right) (zeros left) (range_with_len 0 right) (zeros-within left right h) (within-range right 0 right (omega arith))

-- ---- tests that one side decides

module _ (left right : ℕ) (u v : Row) (wide : length u ≡ left) (broad : length v ≡ right) (env : List Row) where
  picked-right : picked (right_places left right) v ≡ map (value_at v) (zeros left) ++ v
  picked-right =
      map-append (value_at v) (zeros left) (range_with_len 0 right)
      ∙ ap (λ row. map (value_at v) (zeros left) ++ row) (all-places Null v right broad)

  pub left-hold : (tests : List Expr) → Every (λ test. is_left left test ≡ true) tests → hold tests env [] (u ++ v) ≡ hold tests env [] u
  left-hold [] h = refl
  left-hold (test ∷ tests) h =
      λ i. is_met (value-read false 0 left (u ++ v) u (λ place w. value-front u v place (omega (arith, wide, below place left (right-true (not (nat_lt place 0)) (nat_lt place left) w)))) env [] [] test h.0 i)
      && left-hold tests h.1 i

  right-value : (test : Expr) → is_right left right test ≡ true → value test (u ++ v) env [] ≡ value test (picked (right_places left right) v) env []
  right-value test h =
      value-read false left (left + right) (u ++ v) (picked (right_places left right) v)
      (λ place w.
      value-behind u (map (value_at v) (zeros left)) v place (wide ∙ sym (length-zeros (value_at v) left))
      (omega (arith, wide, not-below place left (left-true (not (nat_lt place left)) (nat_lt place (left + right)) w)))
      ∙ ap (λ row. value_at row place) (sym picked-right))
      env [] [] test (right-true (nat_lt 0 right) (reads_only false left (left + right) test) h)

  pub right-hold : (tests moved : List Expr) → PartsMoved (right_places left right) tests moved →
      Every (λ test. is_right_alone left right test ≡ true) tests → hold tests env [] (u ++ v) ≡ hold moved env [] v
  right-hold [] [] m h = refl
  right-hold [] (p ∷ ps) m h = absurd m
  right-hold (test ∷ tests) [] m h = absurd m
  right-hold (test ∷ tests) (p ∷ ps) m h =
      λ i. is_met ((right-value test (right-true (not (is_left left test)) (is_right left right test) h.0) ∙ sym (m.0.value v env [])) i)
      && right-hold tests ps m.1 h.1 i

-- ---- their kinds

module _ (lefts rights : List Kind) (outer : List (List Kind)) (k : Kind) where
  pub left-have : (tests : List Expr) → Every (λ test. is_left (length lefts) test ≡ true) tests → AllHave ((lefts ++ rights) ∷ outer) [] tests k →
      AllHave (lefts ∷ outer) [] tests k
  left-have [] h g = tt
  left-have (test ∷ tests) h g = (
    kind-read false 0 (length lefts) (lefts ++ rights) lefts
        (λ place w. get-front lefts rights place (below place (length lefts) (right-true (not (nat_lt place 0)) (nat_lt place (length lefts)) w))) outer [] [] test k h.0 g.0,
    left-have tests h.1 g.1,
  )

  abbrev order : List ℕ
  order = right_places (length lefts) (length rights)

  kinds-right : kinds_in rights order ≡ map (kind_in rights) (zeros (length lefts)) ++ rights
  kinds-right =
      map-append (kind_in rights) (zeros (length lefts)) (range_with_len 0 (length rights))
      ∙ ap (λ kinds. map (kind_in rights) (zeros (length lefts)) ++ kinds) (all-places kind.Text rights (length rights) refl)

  right-kind : (test moved : Expr) → IsMoved order test moved → is_right (length lefts) (length rights) test ≡ true → HasKind ((lefts ++ rights) ∷ outer) [] test k →
      HasKind (rights ∷ outer) [] moved k
  right-kind test moved m h g =
      m.kind rights outer [] k
      (right-within (length lefts) (length rights) (below 0 (length rights) (left-true (nat_lt 0 (length rights)) (reads_only false (length lefts) (length lefts + length rights) test) h)))
      (kind-read false (length lefts) (length lefts + length rights) (lefts ++ rights) (kinds_in rights order)
      (λ place w.
      get-behind lefts (map (kind_in rights) (zeros (length lefts))) rights place (sym (length-zeros (kind_in rights) (length lefts)))
      (not-below place (length lefts) (left-true (not (nat_lt place (length lefts))) (nat_lt place (length lefts + length rights)) w))
      ∙ ap (λ kinds. slice_get kinds place) (sym kinds-right))
      outer [] [] test k (right-true (nat_lt 0 (length rights)) (reads_only false (length lefts) (length lefts + length rights) test) h) g)

  pub right-have : (tests moved : List Expr) → PartsMoved order tests moved → Every (λ test. is_right_alone (length lefts) (length rights) test ≡ true) tests →
      AllHave ((lefts ++ rights) ∷ outer) [] tests k → AllHave (rights ∷ outer) [] moved k
  right-have [] [] m h g = tt
  right-have [] (p ∷ ps) m h g = absurd m
  right-have (test ∷ tests) [] m h g = absurd m
  right-have (test ∷ tests) (p ∷ ps) m h g = (
    right-kind test p m.0 (right-true (not (is_left (length lefts) test)) (is_right (length lefts) (length rights) test) h.0) g.0,
    right-have tests ps m.1 h.1 g.1,
  )
