-- Set operations, DISTINCT and LIMIT over rows that are marked.
use Rattle.std.proofs.Common.{◌≡◌, ℕ, zero, suc, ◌+◌, ◌<◌, Bool, true, false, cond, not, ◌||◌, List, [], ◌∷◌, ◌++◌, length, map, filter, take, refl, sym, ap, subst, ◌∙◌, arith, true≢false}
use Rattle.std.proofs.lemmas.Bool.{eqb-true}
use Rattle.std.specs.List.{AllByRecursion, range_with_len}
use Rattle.std.specs.Prelude.{nat_eq}
use Rattle.std.specs.Ordering.{is_gt, ordering_reverse, ordering_then}
use Rattle.std.specs.declared.cmp.Ordering.{Ordering}
use Rattle.std.specs.declared.cmp.Ordering.TheVariants.{Less, Equal, Greater}
use Rattle.perm_values.specs.Rows.{key_cmp, printed_cmp, row_cmp, same_row, value_at, KeysWithin}
use Rattle.perm_values.specs.Values.{value_cmp}
use Rattle.perm_values.specs.declared.key.Key.{Key}
use Rattle.perm_values.specs.declared.kind.Kind.{Kind}
use Rattle.bag_algebra.specs.Bags.{Row, Bag, member, once, without_first, in_both, beyond, union_of, intersect_of, except_of, placed, sorted}
use Rattle.bag_algebra.specs.Outcome.{Outcome, Good, Bad, mapped, both}
use Rattle.query_texts.specs.clauses.Keys.{all_keys, at_place, is_key, other_keys}
use Rattle.sql_printer.proofs.rows.MarkedBags.{once-marked, union-marked, intersect-marked, except-marked}
use Rattle.sql_printer.proofs.rows.RelatedOutcomes.{Along, AlikeOutcomes}
use Rattle.sql_printer.proofs.rows.ShownRows.{Shown, Wide, WideOutcome, mark, mark-same, marked-alike, wide-marked}

-- ---- widths

module _ (width : ℕ) where
  wide-append : (us vs : Bag) → Wide width us → Wide width vs → Wide width (us ++ vs)
  wide-append [] vs w x = x
  wide-append (u ∷ us) vs w x = (w.0, wide-append us vs w.1 x)

  either-wide : (b : Bool) (u : Row) (us vs : Bag) → length u ≡ width → Wide width us → Wide width vs → Wide width (cond b (u ∷ us) vs)
  either-wide true u us vs h w x = (h, w)
  either-wide false u us vs h w x = x

  wide-filter : (test : Row → Bool) (us : Bag) → Wide width us → Wide width (filter test us)
  wide-filter test [] w = tt
  wide-filter test (u ∷ us) w = either-wide (test u) u (filter test us) (filter test us) w.0 (wide-filter test us w.1) (wide-filter test us w.1)

  pub wide-once : (us : Bag) → Wide width us → Wide width (once us)
  wide-once [] w = tt
  wide-once (u ∷ us) w = (w.0, wide-filter (λ v. not (same_row u v)) (once us) (wide-once us w.1))

  wide-in_both : (us vs : Bag) → Wide width us → Wide width (in_both us vs)
  wide-in_both [] vs w = tt
  wide-in_both (u ∷ us) vs w =
      either-wide (member u vs) u (in_both us (without_first u vs)) (in_both us vs) w.0 (wide-in_both us (without_first u vs) w.1) (wide-in_both us vs w.1)

  either-wide_swapped : (b : Bool) (u : Row) (us vs : Bag) → length u ≡ width → Wide width us → Wide width vs → Wide width (cond b us (u ∷ vs))
  either-wide_swapped true u us vs h w x = w
  either-wide_swapped false u us vs h w x = (h, x)

  wide-beyond : (us vs : Bag) → Wide width us → Wide width (beyond us vs)
  wide-beyond [] vs w = tt
  wide-beyond (u ∷ us) vs w =
      either-wide_swapped (member u vs) u (beyond us (without_first u vs)) (beyond us vs) w.0 (wide-beyond us (without_first u vs) w.1) (wide-beyond us vs w.1)

  wide-union : (all : Bool) (us vs : Bag) → Wide width us → Wide width vs → Wide width (union_of all us vs)
  wide-union true us vs w x = wide-append us vs w x
  wide-union false us vs w x = wide-once (us ++ vs) (wide-append us vs w x)

  wide-intersect : (all : Bool) (us vs : Bag) → Wide width us → Wide width vs → Wide width (intersect_of all us vs)
  wide-intersect true us vs w x = wide-in_both us vs w
  wide-intersect false us vs w x = wide-once (filter (λ u. member u vs) us) (wide-filter (λ u. member u vs) us w)

  wide-except : (all : Bool) (us vs : Bag) → Wide width us → Wide width vs → Wide width (except_of all us vs)
  wide-except true us vs w x = wide-beyond us vs w
  wide-except false us vs w x = wide-once (filter (λ u. not (member u vs)) us) (wide-filter (λ u. not (member u vs)) us w)

  placed-wide : (b : Bool) (t u : Row) (us vs : Bag) → length t ≡ width → Wide width (u ∷ us) → Wide width vs → Wide width (cond b (u ∷ vs) (t ∷ u ∷ us))
  placed-wide true t u us vs h w x = (w.0, x)
  placed-wide false t u us vs h w x = (h, w)

  wide-placed : (cmp : Row → Row → Ordering) (t : Row) (us : Bag) → length t ≡ width → Wide width us → Wide width (placed cmp t us)
  wide-placed cmp t [] h w = (h, tt)
  wide-placed cmp t (u ∷ us) h w = placed-wide (is_gt (cmp t u)) t u us (placed cmp t us) h w (wide-placed cmp t us h w.1)

  wide-sorted : (cmp : Row → Row → Ordering) (us : Bag) → Wide width us → Wide width (sorted cmp us)
  wide-sorted cmp [] w = tt
  wide-sorted cmp (u ∷ us) w = wide-placed cmp u (sorted cmp us) w.0 (wide-sorted cmp us w.1)

  wide-take : (count : ℕ) (us : Bag) → Wide width us → Wide width (take count us)
  wide-take zero us w = tt
  wide-take (suc count) [] w = tt
  wide-take (suc count) (u ∷ us) w = (w.0, wide-take count us w.1)

  wide-mapped : (f : Bag → Bag) → ((us : Bag) → Wide width us → Wide width (f us)) → (o : Outcome Bag) → WideOutcome width o → WideOutcome width (mapped f o)
  wide-mapped f kept (Good us) w = kept us w
  wide-mapped f kept (Bad g) w = tt

  wide-both : (f : Bag → Bag → Bag) → ((us vs : Bag) → Wide width us → Wide width vs → Wide width (f us vs)) → (o p : Outcome Bag)
      → WideOutcome width o → WideOutcome width p → WideOutcome width (both f o p)
  wide-both f kept (Good us) (Good vs) w x = kept us vs w x
  wide-both f kept (Good us) (Bad g) w x = tt
  wide-both f kept (Bad h) (Good vs) w x = tt
  wide-both f kept (Bad h) (Bad g) w x = tt

-- ---- what is made of marked rows is marked

mapped-marked : (f h : Bag → Bag) → ((us : Bag) → f (h us) ≡ h (f us)) → (o : Outcome Bag) → mapped f (mapped h o) ≡ mapped h (mapped f o)
mapped-marked f h same (Good us) = ap Good (same us)
mapped-marked f h same (Bad g) = refl

both-marked : (f : Bag → Bag → Bag) (h : Bag → Bag) → ((us vs : Bag) → f (h us) (h vs) ≡ h (f us vs)) → (o p : Outcome Bag)
    → both f (mapped h o) (mapped h p) ≡ mapped h (both f o p)
both-marked f h same (Good us) (Good vs) = ap Good (same us vs)
both-marked f h same (Good us) (Bad g) = refl
both-marked f h same (Bad k) (Good vs) = refl
both-marked f h same (Bad k) (Bad g) = refl

module _ (kinds : List Kind) where
  -- a set operation that keeps to marks and widths
  set-alike : (f : Bag → Bag → Bag) → ((us vs : Bag) → f (map (mark kinds) us) (map (mark kinds) vs) ≡ map (mark kinds) (f us vs))
      → ((us vs : Bag) → Wide (length kinds) us → Wide (length kinds) vs → Wide (length kinds) (f us vs)) → (o p : Outcome Bag)
      → WideOutcome (length kinds) o → WideOutcome (length kinds) p
      → AlikeOutcomes (Along (Shown kinds)) (both f o p) (both f (mapped (map (mark kinds)) o) (mapped (map (mark kinds)) p))
  set-alike f same kept o p w x =
      subst (AlikeOutcomes (Along (Shown kinds)) (both f o p)) (sym (both-marked f (map (mark kinds)) same o p))
      (marked-alike kinds (both f o p) (wide-both (length kinds) f kept o p w x))

  pub union-alike : (all : Bool) (o p : Outcome Bag) → WideOutcome (length kinds) o → WideOutcome (length kinds) p
      → AlikeOutcomes (Along (Shown kinds)) (both (union_of all) o p) (both (union_of all) (mapped (map (mark kinds)) o) (mapped (map (mark kinds)) p))
  union-alike all = set-alike (union_of all) (union-marked (mark kinds) (mark-same kinds) all) (wide-union (length kinds) all)

  pub intersect-alike : (all : Bool) (o p : Outcome Bag) → WideOutcome (length kinds) o → WideOutcome (length kinds) p
      → AlikeOutcomes (Along (Shown kinds)) (both (intersect_of all) o p) (both (intersect_of all) (mapped (map (mark kinds)) o) (mapped (map (mark kinds)) p))
  intersect-alike all = set-alike (intersect_of all) (intersect-marked (mark kinds) (mark-same kinds) all) (wide-intersect (length kinds) all)

  pub except-alike : (all : Bool) (o p : Outcome Bag) → WideOutcome (length kinds) o → WideOutcome (length kinds) p
      → AlikeOutcomes (Along (Shown kinds)) (both (except_of all) o p) (both (except_of all) (mapped (map (mark kinds)) o) (mapped (map (mark kinds)) p))
  except-alike all = set-alike (except_of all) (except-marked (mark kinds) (mark-same kinds) all) (wide-except (length kinds) all)

  pub distinct-alike : (o : Outcome Bag) → WideOutcome (length kinds) o
      → AlikeOutcomes (Along (Shown kinds)) (mapped once o) (mapped once (mapped (map (mark kinds)) o))
  distinct-alike o w =
      subst (AlikeOutcomes (Along (Shown kinds)) (mapped once o))
      (sym (mapped-marked once (map (mark kinds)) (once-marked (mark kinds) (mark-same kinds)) o))
      (marked-alike kinds (mapped once o) (wide-mapped (length kinds) once (wide-once (length kinds)) o w))

-- ---- order

then-then : (a b c : Ordering) → ordering_then a (ordering_then b c) ≡ ordering_then (ordering_then a b) c
then-then Less b c = refl
then-then Equal b c = refl
then-then Greater b c = refl

then-same : (a : Ordering) → ordering_then a a ≡ a
then-same Less = refl
then-same Equal = refl
then-same Greater = refl

then-tied : (a b c : Ordering) → (a ≡ Equal → b ≡ c) → ordering_then a b ≡ ordering_then a c
then-tied Less b c same = refl
then-tied Equal b c same = same refl
then-tied Greater b c same = refl

reversed-twice : (a : Ordering) → ordering_reverse (ordering_reverse a) ≡ a
reversed-twice Less = refl
reversed-twice Equal = refl
reversed-twice Greater = refl

unreversed : (descending : Bool) (a : Ordering) → cond descending (ordering_reverse a) a ≡ Equal → a ≡ Equal
unreversed true a tie = sym (reversed-twice a) ∙ ap ordering_reverse tie
unreversed false a tie = tie

-- ---- rows that no key tells apart

module _ (u v : Row) where
  abbrev column_cmp : ℕ → Ordering
  column_cmp place = value_cmp (value_at u place) (value_at v place)

  abbrev Tied : List Key → Type 0
  Tied keys = AllByRecursion (λ (key : Key). key_cmp key u v ≡ Equal) keys

  tied-or-later : (key : Key) (place : ℕ) (b : Bool) (later : Bool) → nat_eq key.place place ≡ b → key_cmp key u v ≡ Equal
      → (later ≡ true → column_cmp place ≡ Equal) → (b || later) ≡ true → column_cmp place ≡ Equal
  tied-or-later key place true later here tie rest e =
      subst (λ p. column_cmp p ≡ Equal) (eqb-true key.place place here) (unreversed key.descending (column_cmp key.place) tie)
  tied-or-later key place false later here tie rest e = rest e

  -- nor does the column of a key
  tied-at : (keys : List Key) (place : ℕ) → Tied keys → is_key keys place ≡ true → column_cmp place ≡ Equal
  tied-at [] place ties e = absurd (true≢false (sym e))
  tied-at (key ∷ keys) place ties e =
      tied-or-later key place (nat_eq key.place place) (is_key keys place) refl ties.0 (tied-at keys place ties.1) e

  -- behind the keys only rows are compared that these don't tell apart
  behind-keys : (keys more : List Key) → (Tied keys → printed_cmp more u v ≡ row_cmp u v) → printed_cmp (keys ++ more) u v ≡ printed_cmp keys u v
  behind-keys [] more same = same tt
  behind-keys (key ∷ keys) more same =
      then-tied (key_cmp key u v) (printed_cmp (keys ++ more) u v) (printed_cmp keys u v) (λ tie. behind-keys keys more (λ ties. same (tie, ties)))

  -- so a column that is left out because a key is it tells nothing
  unless-cmp : (b : Bool) (place : ℕ) (more : List Key) → (b ≡ true → column_cmp place ≡ Equal)
      → printed_cmp (cond b [] (at_place place ∷ []) ++ more) u v ≡ ordering_then (column_cmp place) (printed_cmp more u v)
  unless-cmp true place more tie = ap (λ o. ordering_then o (printed_cmp more u v)) (sym (tie refl))
  unless-cmp false place more tie = refl

  -- columns from a place on are the rest of the rows
  columns-cmp : (keys : List Key) → Tied keys → (xs ys : Row) (start : ℕ) → length xs ≡ length ys
      → ((place : ℕ) → place < length xs → value_at u (start + place) ≡ value_at xs place)
      → ((place : ℕ) → place < length ys → value_at v (start + place) ≡ value_at ys place)
      → printed_cmp (other_keys keys (range_with_len start (length xs))) u v ≡ ordering_then (row_cmp xs ys) (row_cmp u v)
  columns-cmp keys ties [] [] start same f g = refl
  columns-cmp keys ties [] (y ∷ ys) start same f g = absurd (omega (arith, same))
  columns-cmp keys ties (x ∷ xs) [] start same f g = absurd (omega (arith, same))
  columns-cmp keys ties (x ∷ xs) (y ∷ ys) start same f g =
      let own : start ≡ start + 0 = omega arith in
      let first : value_at u start ≡ x = ap (value_at u) own ∙ f 0 (omega arith) in
      let second : value_at v start ≡ y = ap (value_at v) own ∙ g 0 (omega arith) in
      let rest = columns-cmp keys ties xs ys (start + 1) (omega (arith, same))
      (λ place h. let next : start + 1 + place ≡ start + suc place = omega arith in ap (value_at u) next ∙ f (suc place) (omega (arith, h)))
      (λ place h. let next : start + 1 + place ≡ start + suc place = omega arith in ap (value_at v) next ∙ g (suc place) (omega (arith, h))) in
      unless-cmp (is_key keys start) start (other_keys keys (range_with_len (start + 1) (length xs))) (tied-at keys start ties)
      ∙ (λ i. ordering_then (value_cmp (first i) (second i)) (rest i)) ∙ then-then (value_cmp x y) (row_cmp xs ys) (row_cmp u v)

  all_keys-cmp : (keys : List Key) (width : ℕ) → length u ≡ width → length v ≡ width → printed_cmp (all_keys width keys) u v ≡ printed_cmp keys u v
  all_keys-cmp keys width h k =
      let own : (w : Row) (place : ℕ) → place < length w → value_at w (0 + place) ≡ value_at w place =
      λ w place b. let none : 0 + place ≡ place = omega arith in ap (value_at w) none in
      behind-keys keys (other_keys keys (range_with_len 0 width)) (λ ties.
      ap (λ n. printed_cmp (other_keys keys (range_with_len 0 n)) u v) (sym h)
      ∙ columns-cmp keys ties u v 0 (h ∙ sym k) (own u) (own v) ∙ then-same (row_cmp u v))

no_keys : (keys : List Key) → KeysWithin 0 keys → keys ≡ []
no_keys [] within = refl
no_keys (key ∷ keys) within = let none : key.place < 0 = within 0 key (omega arith) in absurd (omega (arith, none))

marked-cmp : (kinds : List Kind) (keys : List Key) → KeysWithin (length kinds) keys → (u v : Row) → length u ≡ length kinds → length v ≡ length kinds
    → printed_cmp (all_keys (length kinds) keys) (mark kinds u) (mark kinds v) ≡ printed_cmp keys u v
marked-cmp [] keys within u v h k =
    ap (λ ks. printed_cmp (all_keys 0 ks) (mark [] u) (mark [] v)) (no_keys keys within) ∙ ap (λ ks. printed_cmp ks u v) (sym (no_keys keys within))
marked-cmp (kind ∷ kinds) keys within u v h k = all_keys-cmp u v keys (length (kind ∷ kinds)) h k

-- ---- sorting

either-marked : (f : Row → Row) (b : Bool) (us vs : Bag) → cond b (map f us) (map f vs) ≡ map f (cond b us vs)
either-marked f true us vs = refl
either-marked f false us vs = refl

module _ (f : Row → Row) (cmp own : Row → Row → Ordering) (width : ℕ)
    (same : (u v : Row) → length u ≡ width → length v ≡ width → cmp (f u) (f v) ≡ own u v) where
  placed-marked : (t : Row) (us : Bag) → length t ≡ width → Wide width us → placed cmp (f t) (map f us) ≡ map f (placed own t us)
  placed-marked t [] h w = refl
  placed-marked t (u ∷ us) h w =
      (λ i. cond (is_gt (same t u h w.0 i)) (f u ∷ placed-marked t us h w.1 i) (f t ∷ f u ∷ map f us))
      ∙ either-marked f (is_gt (own t u)) (u ∷ placed own t us) (t ∷ u ∷ us)

  sorted-marked : (us : Bag) → Wide width us → sorted cmp (map f us) ≡ map f (sorted own us)
  sorted-marked [] w = refl
  sorted-marked (u ∷ us) w =
      ap (placed cmp (f u)) (sorted-marked us w.1) ∙ placed-marked u (sorted own us) w.0 (wide-sorted width own us w.1)

take-map : (f : Row → Row) (count : ℕ) (us : Bag) → take count (map f us) ≡ map f (take count us)
take-map f zero us = refl
take-map f (suc count) [] = refl
take-map f (suc count) (u ∷ us) = ap (λ vs. f u ∷ vs) (take-map f count us)

pub limit-alike : (kinds : List Kind) (keys : List Key) (count : ℕ) → KeysWithin (length kinds) keys → (o : Outcome Bag) → WideOutcome (length kinds) o
    → AlikeOutcomes (Along (Shown kinds)) (mapped (λ bag. take count (sorted (printed_cmp keys) bag)) o)
    (mapped (λ bag. take count (sorted (printed_cmp (all_keys (length kinds) keys)) bag)) (mapped (map (mark kinds)) o))
limit-alike kinds keys count within (Bad g) w = refl
limit-alike kinds keys count within (Good us) w =
    let width = length kinds in
    let first = take count (sorted (printed_cmp keys) us) in
    let marked = ap (take count) (sorted-marked (mark kinds) (printed_cmp (all_keys width keys)) (printed_cmp keys) width (marked-cmp kinds keys within) us w)
    ∙ take-map (mark kinds) count (sorted (printed_cmp keys) us) in
    subst (Along (Shown kinds) first) (sym marked) (wide-marked kinds first (wide-take width count (sorted (printed_cmp keys) us) (wide-sorted width (printed_cmp keys) us w)))
