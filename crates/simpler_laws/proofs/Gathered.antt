-- Filters and inner joins whose conditions are good on every row: they keep the rows on which these are true.
use Rattle.std.proofs.Common.{◌≡◌, ℕ, Bool, true, false, cond, ◌&&◌, List, [], ◌∷◌, ◌++◌, map, filter, append-nil, refl, sym, ap, ◌∙◌, true≢false}
use Rattle.perm_values.specs.declared.value.Value.{Value}
use Rattle.bag_algebra.specs.Bags.{Row, Bag}
use Rattle.bag_algebra.specs.Means.{holds_of, is_met, kept, met_pairs, joined_rows}
use Rattle.bag_algebra.specs.Outcome.{Outcome, Good, Bad, is_good, and_then, mapped, both, both_then, gather}
use Rattle.bag_algebra.specs.declared.query.JoinKind.TheVariants.{Inner}
use Rattle.contribution.proofs.WhereGood.{Every, WhereGood}
use Rattle.query_laws.proofs.Filtered.{put_before}

-- ---- lists

-- the pairs of which the test is true
abbrev pub paired_where : (Row → Bool) → Bag → Bag → Bag
paired_where test [] vs = []
paired_where test (u ∷ us) vs = map (λ v. u ++ v) (filter (λ v. test (u ++ v)) vs) ++ paired_where test us vs

filter-put : {X : Type 0} (g : X → Bool) (a b : Bool) (x : X) (xs ys : List X) → a ≡ g x → filter g xs ≡ ys →
    filter g (cond b (x ∷ xs) xs) ≡ cond (b && a) (x ∷ ys) ys
filter-put g a true x xs ys e f = (λ i. cond (sym e i) (x ∷ f i) (f i))
filter-put g a false x xs ys e f = f

pub filter-twice : {X : Type 0} (p g : X → Bool) (xs : List X) → filter g (filter p xs) ≡ filter (λ x. p x && g x) xs
filter-twice p g [] = refl
filter-twice p g (x ∷ xs) = filter-put g (g x) (p x) x (filter p xs) (filter (λ y. p y && g y) xs) refl (filter-twice p g xs)

pub filter-all : {X : Type 0} (xs : List X) → filter (λ x. true) xs ≡ xs
filter-all [] = refl
filter-all (x ∷ xs) = ap (λ ys. x ∷ ys) (filter-all xs)

put-append : {X : Type 0} (b : Bool) (x : X) (xs ys : List X) → cond b (x ∷ (xs ++ ys)) (xs ++ ys) ≡ cond b (x ∷ xs) xs ++ ys
put-append true x xs ys = refl
put-append false x xs ys = refl

pub filter-append : {X : Type 0} (g : X → Bool) (xs ys : List X) → filter g (xs ++ ys) ≡ filter g xs ++ filter g ys
filter-append g [] ys = refl
filter-append g (x ∷ xs) ys = (λ i. cond (g x) (x ∷ filter-append g xs ys i) (filter-append g xs ys i)) ∙ put-append (g x) x (filter g xs) (filter g ys)

put-map : {X Y : Type 0} (f : X → Y) (b : Bool) (x : X) (xs : List X) → cond b (f x ∷ map f xs) (map f xs) ≡ map f (cond b (x ∷ xs) xs)
put-map f true x xs = refl
put-map f false x xs = refl

pub filter-map : {X Y : Type 0} (g : Y → Bool) (f : X → Y) (xs : List X) → filter g (map f xs) ≡ map f (filter (λ x. g (f x)) xs)
filter-map g f [] = refl
filter-map g f (x ∷ xs) = (λ i. cond (g (f x)) (f x ∷ filter-map g f xs i) (filter-map g f xs i)) ∙ put-map f (g (f x)) x (filter (λ y. g (f y)) xs)

pub filter-paired : (p g : Row → Bool) (us vs : Bag) → filter g (paired_where p us vs) ≡ paired_where (λ x. p x && g x) us vs
filter-paired p g [] vs = refl
filter-paired p g (u ∷ us) vs =
    filter-append g (map (λ v. u ++ v) (filter (λ v. p (u ++ v)) vs)) (paired_where p us vs)
    ∙ (λ i. (filter-map g (λ v. u ++ v) (filter (λ v. p (u ++ v)) vs) ∙ ap (map (λ v. u ++ v)) (filter-twice (λ v. p (u ++ v)) (λ v. g (u ++ v)) vs)) i
    ++ filter-paired p g us vs i)

-- ---- a test that each side decides in part

module _ (P R : Row → Type 0) (p a b q : Row → Bool) (decide : (u v : Row) → P u → R v → p (u ++ v) ≡ (a u && (b v && q (u ++ v)))) where
  none-left : (u : Row) (vs : Bag) → P u → Every R vs → a u ≡ false → filter (λ v. p (u ++ v)) vs ≡ []
  none-left u [] h k e = refl
  none-left u (v ∷ vs) h k e =
      (λ i. cond ((decide u v h k.0 ∙ ap (λ c. c && (b v && q (u ++ v))) e) i) (v ∷ none-left u vs h k.1 e i) (none-left u vs h k.1 e i))

  some-left : (u : Row) (vs : Bag) → P u → Every R vs → a u ≡ true → filter (λ v. p (u ++ v)) vs ≡ filter (λ v. q (u ++ v)) (filter b vs)
  some-left u [] h k e = refl
  some-left u (v ∷ vs) h k e =
      (λ i. cond ((decide u v h k.0 ∙ ap (λ c. c && (b v && q (u ++ v))) e) i) (v ∷ some-left u vs h k.1 e i) (some-left u vs h k.1 e i))
      ∙ sym (filter-put (λ w. q (u ++ w)) (q (u ++ v)) (b v) v (filter b vs) (filter (λ w. q (u ++ w)) (filter b vs)) refl refl)

  one-left : (c : Bool) (u : Row) (us vs ws : Bag) → P u → Every R vs → a u ≡ c → ws ≡ paired_where q us (filter b vs) →
      map (λ v. u ++ v) (filter (λ v. p (u ++ v)) vs) ++ ws ≡ paired_where q (cond c (u ∷ us) us) (filter b vs)
  one-left true u us vs ws h k e rest = λ i. map (λ v. u ++ v) (some-left u vs h k e i) ++ rest i
  one-left false u us vs ws h k e rest = (λ i. map (λ v. u ++ v) (none-left u vs h k e i) ++ rest i)

  pub paired-decided : (us vs : Bag) → Every P us → Every R vs → paired_where p us vs ≡ paired_where q (filter a us) (filter b vs)
  paired-decided [] vs h k = refl
  paired-decided (u ∷ us) vs h k = one-left (a u) u (filter a us) vs (paired_where p us vs) h.0 k refl (paired-decided us vs h.1 k)

-- ---- outcomes

module _ (condition : Row → Outcome Value) (good : (u : Row) → is_good (condition u) ≡ true) where
  kept-good : (u : Row) → kept condition u ≡ Good (cond (is_met (condition u)) (u ∷ []) [])
  kept-good u = by_case (condition u) (good u) where
    by_case : (o : Outcome Value) → is_good o ≡ true → mapped (λ v. cond (holds_of v) (u ∷ []) []) o ≡ Good (cond (is_met o) (u ∷ []) [])
    by_case (Good v) h = refl
    by_case (Bad faults) h = absurd (true≢false (sym h))

  gather-good : (us : Bag) → gather (kept condition) us ≡ Good (filter (λ u. is_met (condition u)) us)
  gather-good [] = refl
  gather-good (u ∷ us) =
      (λ i. both (λ y ys. y ++ ys) (kept-good u i) (gather-good us i)) ∙ ap Good (put_before (is_met (condition u)) u (filter (λ v. is_met (condition v)) us))

  pub filter-good : (o : Outcome Bag) → and_then o (gather (kept condition)) ≡ mapped (filter (λ u. is_met (condition u))) o
  filter-good (Good us) = gather-good us
  filter-good (Bad faults) = refl

  put-pair : (b : Bool) (u v : Row) (vs : Bag) → cond b ((u ++ v) ∷ []) [] ++ map (λ w. u ++ w) vs ≡ map (λ w. u ++ w) (cond b (v ∷ vs) vs)
  put-pair true u v vs = refl
  put-pair false u v vs = refl

  row_pairs-good : (u : Row) (vs : Bag) → gather (λ v. kept condition (u ++ v)) vs ≡ Good (map (λ v. u ++ v) (filter (λ v. is_met (condition (u ++ v))) vs))
  row_pairs-good u [] = refl
  row_pairs-good u (v ∷ vs) =
      (λ i. both (λ y ys. y ++ ys) (kept-good (u ++ v) i) (row_pairs-good u vs i))
      ∙ ap Good (put-pair (is_met (condition (u ++ v))) u v (filter (λ w. is_met (condition (u ++ w))) vs))

  met_pairs-good : (us vs : Bag) → met_pairs condition us vs ≡ Good (paired_where (λ x. is_met (condition x)) us vs)
  met_pairs-good [] vs = refl
  met_pairs-good (u ∷ us) vs = λ i. both (λ y ys. y ++ ys) (row_pairs-good u vs i) (met_pairs-good us vs i)

  inner-good : (left right : ℕ) (us vs : Bag) → joined_rows Inner condition left right us vs ≡ Good (paired_where (λ x. is_met (condition x)) us vs)
  inner-good left right us vs =
      ap (mapped (λ pairs. pairs ++ [] ++ [])) (met_pairs-good us vs)
      ∙ ap Good (append-nil (paired_where (λ x. is_met (condition x)) us vs ++ []) ∙ append-nil (paired_where (λ x. is_met (condition x)) us vs))

  pub join-good : (left right : ℕ) (o p : Outcome Bag) →
      both_then o p (joined_rows Inner condition left right) ≡ both (paired_where (λ x. is_met (condition x))) o p
  join-good left right (Good us) (Good vs) = inner-good left right us vs
  join-good left right (Good us) (Bad g) = refl
  join-good left right (Bad f) (Good vs) = refl
  join-good left right (Bad f) (Bad g) = refl

pub mapped-twice : {X Y Z : Type 0} (g : Y → Z) (f : X → Y) (o : Outcome X) → mapped g (mapped f o) ≡ mapped (λ x. g (f x)) o
mapped-twice g f (Good x) = refl
mapped-twice g f (Bad faults) = refl

pub mapped-both : {X Y Z W : Type 0} (g : Z → W) (f : X → Y → Z) (o : Outcome X) (p : Outcome Y) → mapped g (both f o p) ≡ both (λ x y. g (f x y)) o p
mapped-both g f (Good x) (Good y) = refl
mapped-both g f (Good x) (Bad h) = refl
mapped-both g f (Bad k) (Good y) = refl
mapped-both g f (Bad k) (Bad h) = refl

-- two that agree on what fits, the second one over what is made of both sides
pub both-same : (P R : Row → Type 0) (f g : Bag → Bag → Bag) (a b : Bag → Bag) →
    ((us vs : Bag) → Every P us → Every R vs → f us vs ≡ g (a us) (b vs)) → (o p : Outcome Bag) → WhereGood (Every P) o → WhereGood (Every R) p →
    both f o p ≡ both g (mapped a o) (mapped b p)
both-same P R f g a b same (Good us) (Good vs) h k = ap Good (same us vs h k)
both-same P R f g a b same (Good us) (Bad l) h k = refl
both-same P R f g a b same (Bad m) (Good vs) h k = refl
both-same P R f g a b same (Bad m) (Bad l) h k = refl
