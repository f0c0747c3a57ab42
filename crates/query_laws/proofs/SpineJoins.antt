-- A dependent join whose right side is a spine has the rows of the join with the spine's base.
use Rattle.std.proofs.Common.{◌≡◌, ℕ, zero, suc, ◌+◌, ◌≤◌, inl, inr, Bool, true, false, cond, not, ◌&&◌, ◌||◌, List, [], ◌∷◌, ◌++◌, map, filter, length, append-nil, refl, sym, ap, ◌∙◌, subst, arith, true≢false}
use Rattle.std.proofs.lemmas.Bool.{leb-true}
use Rattle.std.proofs.lemmas.Bool.Decides.{nat_tests}
use Rattle.std.proofs.lemmas.List.{map-append}
use Rattle.std.specs.Prelude.{nat_eq, nat_le}
use Rattle.std.specs.List.{flat_map, list_any}
use Rattle.perm_values.specs.declared.kind.Kind.{Kind}
use Rattle.perm_values.specs.declared.value.Value.{Value}
use Rattle.perm_values.specs.declared.value.Value.TheVariants.{Null}
use Rattle.bag_algebra.proofs.BagLaws.{count-append}
use Rattle.bag_algebra.proofs.Members.{IsIn}
use Rattle.bag_algebra.proofs.NeverBad.{good-query}
use Rattle.bag_algebra.proofs.Outcomes.{both-is, mapped-is}
use Rattle.bag_algebra.proofs.Columns.{each-good}
use Rattle.bag_algebra.proofs.Truths.{left-true, right-true}
use Rattle.bag_algebra.specs.Bags.{Row, Bag, SameBag, count, nulls}
use Rattle.bag_algebra.specs.built.Openings.{rows-with_lists}
use Rattle.bag_algebra.specs.built.Patterns.{OpOf, ChainOf, CaseOf, IsNullOf, IsTruthOf, SameOf, JoinOf, ApplyOf}
use Rattle.bag_algebra.specs.Expressions.{value}
use Rattle.bag_algebra.specs.Fits.{bag_fits}
use Rattle.bag_algebra.specs.Kinds.{kinds_of, width_of, item_kinds}
use Rattle.bag_algebra.specs.Meaning.{Database, meaning, condition_on, items_on}
use Rattle.bag_algebra.specs.Means.{good_row, good_rows, holds_of, is_met, is_some_row, keeps_left, kept, joined_rows, met_pairs, no_subs, under, unmatched_left}
use Rattle.bag_algebra.specs.Outcome.{Outcome, Good, Bad, Faults, union, and_then, mapped, both, both_then, gather, each, is_good}
use Rattle.bag_algebra.specs.Rewriting.{SameRows}
use Rattle.bag_algebra.specs.WellFormed.{is_dependent}
use Rattle.bag_algebra.specs.declared.expr.Expr.{Expr}
use Rattle.bag_algebra.specs.declared.expr.Expr.TheVariants.{Col, Lit, Sub}
use Rattle.bag_algebra.specs.declared.expr.Item.{Item}
use Rattle.bag_algebra.specs.declared.query.JoinKind.{JoinKind}
use Rattle.bag_algebra.specs.declared.query.JoinKind.TheVariants.{Inner, Left, Right, Full}
use Rattle.bag_algebra.specs.declared.query.Query.{Query, end_of-Sublink}
use Rattle.contribution.proofs.Growth.{denote-closed}
use Rattle.contribution.proofs.NodeQueries.{meaning-projected, meaning-pairs}
use Rattle.contribution.proofs.QueryKinds.{rows_have-kinds}
use Rattle.contribution.proofs.RowKinds.{RowFits, row_fits-length}
use Rattle.contribution.proofs.SetsOfRows.{mapped-gather}
use Rattle.contribution.proofs.ValueKinds.{fits-begins}
use Rattle.contribution.proofs.WhereGood.{each-in}
use Rattle.contribution.specs.Conjunctions.{condition_or_true}
use Rattle.contribution.specs.Fitting.{Fitting}
use Rattle.query_laws.proofs.Grouped.{map-map}
use Rattle.query_laws.proofs.Inputs.{across}
use Rattle.query_laws.proofs.StandingSublinks.{gather-on}
use Rattle.query_laws.proofs.SpineForms.{spine-faultless, spine-fault_free, spine-kinds, spine-tables, base-formed}
use Rattle.query_laws.proofs.SpineItems.{row_by, items-good, items_faultless-append, items-both, behind-faultless, behind-give, null-behind}
use Rattle.query_laws.proofs.SpineRows.{where_holds, spine_row, spine-rows}
use Rattle.query_laws.specs.spines.Spines.{IsSpine, Suits, all_behind, is_behind, items_behind, spine_join}
use Rattle.query_laws.specs.declared.spines.spine.Spine.{Spine}

-- ---- lists

map-flat : {X Y : Type 0} (f : X → Y) (xs : List X) → map f xs ≡ flat_map (λ x. f x ∷ []) xs
map-flat f [] = refl
map-flat f (x ∷ xs) = ap (λ ys. f x ∷ ys) (map-flat f xs)

-- what is made of each gathered row may be made of each item's own
map-gather : {X Y Z : Type 0} (f : Y → Z) (g : X → Outcome (List Y)) (xs : List X) → mapped (map f) (gather g xs) ≡ gather (λ x. mapped (map f) (g x)) xs
map-gather {X} {Y} {Z} f g xs = by (gather g xs) ∙ mapped-gather (λ y. f y ∷ []) g xs ∙ gather-on _ _ xs (λ x h. sym (by (g x))) where
  by : (o : Outcome (List Y)) → mapped (map f) o ≡ mapped (flat_map (λ y. f y ∷ [])) o
  by (Good ys) = ap Good (map-flat f ys)
  by (Bad faults) = refl

-- ---- parts of what each item gives, one after the other or apart

sums : (a b x y s : ℕ) → x ≡ y + s → (a + b) + x ≡ (a + y) + (b + s)
sums a b x y s e = omega (arith, e)

module _ {X Y : Type 0} (first second : X → List Y → Bag) (found : X → Outcome (List Y)) (given : Outcome (List Y) → List Y) (good : (ys : List Y) → given (Good ys) ≡ ys) where
  abbrev seconds : List X → Bag
  seconds xs = flat_map (λ x. second x (given (found x))) xs

  abbrev apart : List X → Outcome Bag
  apart xs = mapped (λ rows. rows ++ seconds xs) (gather (λ x. mapped (first x) (found x)) xs)

  apart-next : (a b xs ys bs : Bag) → SameBag xs (ys ++ bs) → SameBag ((a ++ b) ++ xs) ((a ++ ys) ++ (b ++ bs))
  apart-next a b xs ys bs s = record {
    counts = λ t.
        count-append t (a ++ b) xs ∙ ap (λ n. n + count t xs) (count-append t a b)
        ∙ sums (count t a) (count t b) (count t xs) (count t ys) (count t bs) (s.counts t ∙ count-append t ys bs)
        ∙ sym (count-append t (a ++ ys) (b ++ bs) ∙ (λ i. count-append t a ys i + count-append t b bs i));
  }

  by_rest : (x : X) (bs : Bag) (o : Outcome (List Y)) (r s : Outcome Bag) → SameRows r (mapped (λ rows. rows ++ bs) s) →
      SameRows (both (λ us vs. us ++ vs) (mapped (λ ys. first x ys ++ second x ys) o) r)
      (mapped (λ rows. rows ++ (second x (given o) ++ bs)) (both (λ us vs. us ++ vs) (mapped (first x) o) s))
  by_rest x bs (Good ys) (Good rows) (Good others) same =
      subst (λ zs. SameBag ((first x ys ++ second x ys) ++ rows) ((first x ys ++ others) ++ (second x zs ++ bs))) (sym (good ys))
      (apart-next (first x ys) (second x ys) rows others bs same)
  by_rest x bs (Good ys) (Good rows) (Bad faults) same = absurd same
  by_rest x bs (Good ys) (Bad faults) (Good others) same = absurd same
  by_rest x bs (Good ys) (Bad faults) (Bad more) same = same
  by_rest x bs (Bad faults) (Good rows) (Good others) same = refl
  by_rest x bs (Bad faults) (Good rows) (Bad more) same = absurd same
  by_rest x bs (Bad faults) (Bad more) (Good others) same = absurd same
  by_rest x bs (Bad faults) (Bad more) (Bad further) same = ap (union faults) same

  parts-apart : (xs : List X) → SameRows (gather (λ x. mapped (λ ys. first x ys ++ second x ys) (found x)) xs) (apart xs)
  parts-apart [] = record { counts = λ t. refl }
  parts-apart (x ∷ xs) = by_rest x (seconds xs) (found x) (gather (λ x. mapped (λ ys. first x ys ++ second x ys) (found x)) xs) (gather (λ x. mapped (first x) (found x)) xs) (parts-apart xs)

-- ---- rows that meet no other

-- some row is found exactly where one meets the condition
found-met : (row : Row → Row) (test : Row → Outcome Value) (vs found : Bag) → gather (λ v. where_holds (row v) (test v)) vs ≡ Good found →
    is_some_row found ≡ list_any (λ v. is_met (test v)) vs
found-met row test [] found e = ap is_some_row (nothing e) where
  nothing : Good [] ≡ Good found → found ≡ []
  nothing e = cc
found-met row test (v ∷ vs) found e =
    let parts = both-is (λ ys zs. ys ++ zs) (where_holds (row v) (test v)) (gather (λ v. where_holds (row v) (test v)) vs) found e in
    sym (ap is_some_row parts.4) ∙ by_value (test v) parts.0 parts.2 parts.1 (found-met row test vs parts.1 parts.3) where
      by_holding : (b c : Bool) (rest : Bag) → is_some_row rest ≡ c → is_some_row (cond b (row v ∷ []) [] ++ rest) ≡ (b || c)
      by_holding true c rest e = refl
      by_holding false c rest e = e

      by_value : (o : Outcome Value) (first : Bag) → where_holds (row v) o ≡ Good first → (rest : Bag) → is_some_row rest ≡ list_any (λ v. is_met (test v)) vs →
          is_some_row (first ++ rest) ≡ (is_met o || list_any (λ v. is_met (test v)) vs)
      by_value (Good y) first made rest more =
          let is : cond (holds_of y) (row v ∷ []) [] ≡ first = cc in
          ap (λ bag. is_some_row (bag ++ rest)) (sym is) ∙ by_holding (holds_of y) (list_any (λ v. is_met (test v)) vs) rest more
      by_value (Bad faults) first made rest more = absurd (cc made)

-- each item of what was gathered is good
good-of : {X Y Z : Type 0} (f : X → List Y → List Z) (g : X → Outcome (List Y)) (xs : List X) (all : List Z) → gather (λ x. mapped (f x) (g x)) xs ≡ Good all →
    (x : X) → IsIn x xs → (ys : List Y) × (g x ≡ Good ys)
good-of f g [] all e x h = absurd h
good-of f g (y ∷ xs) all e x h =
    let parts = both-is (λ ys zs. ys ++ zs) (mapped (f y) (g y)) (gather (λ x. mapped (f x) (g x)) xs) all e in
    elim h [
      | inl same ↦ let here = mapped-is (f y) (g y) parts.0 parts.2 in (here.0, ap g (sym same) ∙ here.1)
      | inr later ↦ good-of f g xs parts.1 parts.3 x later
    ]

where_good : (o : Outcome Bag) (f g : Bag → Bag) → ((rows : Bag) → o ≡ Good rows → f rows ≡ g rows) → mapped f o ≡ mapped g o
where_good (Good rows) f g e = ap Good (e rows refl)
where_good (Bad faults) f g e = refl

-- the rows that meet no other, and what is made of each that has none
alone-rows : (make after : Row → Row) (met : Row → Bool) (some : Row → Bool) (us : Bag) → ((u : Row) → IsIn u us → some u ≡ met u) → ((u : Row) → IsIn u us → make u ≡ after u) →
    map make (filter (λ u. not (met u)) us) ≡ flat_map (λ u. cond (some u) [] (after u ∷ [])) us
alone-rows make after met some [] e f = refl
alone-rows make after met some (u ∷ us) e f =
    by_meeting (alone-rows make after met some us (λ v h. e v (inr h)) (λ v h. f v (inr h))) (met u) refl ∙ ap (λ b. cond b [] (after u ∷ []) ++ flat_map (λ u. cond (some u) [] (after u ∷ [])) us) (sym (e u (inl refl))) where
      by_meeting : map make (filter (λ u. not (met u)) us) ≡ flat_map (λ u. cond (some u) [] (after u ∷ [])) us → (b : Bool) → met u ≡ b → map make (cond (not b) (u ∷ filter (λ u. not (met u)) us) (filter (λ u. not (met u)) us)) ≡
          cond b [] (after u ∷ []) ++ flat_map (λ u. cond (some u) [] (after u ∷ [])) us
      by_meeting rest true m = rest
      by_meeting rest false m = λ i. f u (inl refl) i ∷ rest i

-- ---- items beside NULLs

not-own : (level : ℕ) → nat_eq (suc level) 0 ≡ false
not-own level = grind (arith, nat_tests)

module _ (env : List Row) (u : Row) (n : ℕ) where
  one-null : (width : ℕ) (e : Expr) → is_behind width e ≡ true → length u ≤ width → value e (u ++ nulls n) env [] ≡ Good Null
  one-null width (Col zero place) near far = ap Good (null-behind u n place (let beyond = leb-true width place near in omega (arith, far, beyond)))
  one-null width (Col (suc level) place) near far = absurd (true≢false (sym near ∙ ap (λ b. b && nat_le width place) (not-own level)))
  one-null width (Lit v kind) near far = absurd (true≢false (sym near))
  one-null width (OpOf op _ parts) near far = absurd (true≢false (sym near))
  one-null width (ChainOf first _ steps) near far = absurd (true≢false (sym near))
  one-null width (CaseOf _ arms otherwise) near far = absurd (true≢false (sym near))
  one-null width (Sub number) near far = absurd (true≢false (sym near))
  one-null width (IsNullOf part) near far = absurd (true≢false (sym near))
  one-null width (IsTruthOf truth part) near far = absurd (true≢false (sym near))
  one-null width (SameOf first second) near far = absurd (true≢false (sym near))

  all-null : (items : List Item) → all_behind (length u) items ≡ true → items_on items env no_subs (u ++ nulls n) ≡ Good (nulls (length items))
  all-null [] h = refl
  all-null (item ∷ items) h =
      let first = one-null (length u) item.expr (left-true (is_behind (length u) item.expr) (all_behind (length u) items) h) (omega arith) in
      let rest = all-null items (right-true (is_behind (length u) item.expr) (all_behind (length u) items) h) in
      λ i. both (λ v vs. v ∷ vs) (first i) (rest i)

kinds-length : (items : List Item) → length (item_kinds items) ≡ length items
kinds-length [] = refl
kinds-length (item ∷ items) = ap suc (kinds-length items)

-- ---- outcomes

mapped-twice : (f g : Bag → Bag) (o : Outcome Bag) → mapped f (mapped g o) ≡ mapped (λ rows. f (g rows)) o
mapped-twice f g (Good rows) = refl
mapped-twice f g (Bad faults) = refl

mapped-same : (f g : Bag → Bag) → ((rows : Bag) → f rows ≡ g rows) → (o : Outcome Bag) → mapped f o ≡ mapped g o
mapped-same f g e (Good rows) = ap Good (e rows)
mapped-same f g e (Bad faults) = refl

then-each : (items : Row → Outcome Row) (make : Row → Row) → ((x : Row) → items x ≡ Good (make x)) → (o : Outcome Bag) → and_then o (each items) ≡ mapped (map make) o
then-each items make good (Good rows) = each-good make items good rows
then-each items make good (Bad faults) = refl

good_rows-is : (o : Outcome Bag) → is_good o ≡ true → o ≡ Good (good_rows o)
good_rows-is (Good bag) w = refl
good_rows-is (Bad faults) w = absurd (cc w)

abbrev no_rows : Bag
no_rows = []

nothing-each : (some : Row → Bool) (us : Bag) → no_rows ≡ flat_map (λ u. cond (some u) no_rows no_rows) us
nothing-each some [] = refl
nothing-each some (u ∷ us) = nothing-each some us ∙ ap (λ rows. rows ++ flat_map (λ u. cond (some u) no_rows no_rows) us) (either (some u)) where
  either : (b : Bool) → no_rows ≡ cond b no_rows no_rows
  either true = refl
  either false = refl

-- ---- joins that keep no right rows

module _ (condition : Row → Outcome Value) (left_width right_width : ℕ) (us vs : Bag) where
  abbrev alone : JoinKind → Bag
  alone kind = cond (keeps_left kind) (map (λ u. u ++ nulls right_width) (unmatched_left condition us vs)) []

  dependent-rows : (kind : JoinKind) → is_dependent kind ≡ true →
      joined_rows kind condition left_width right_width us vs ≡ mapped (λ pairs. pairs ++ alone kind) (met_pairs condition us vs)
  dependent-rows Inner d = mapped-same (λ pairs. (pairs ++ alone Inner) ++ []) (λ pairs. pairs ++ alone Inner) (λ pairs. append-nil (pairs ++ alone Inner)) (met_pairs condition us vs)
  dependent-rows Left d = mapped-same (λ pairs. (pairs ++ alone Left) ++ []) (λ pairs. pairs ++ alone Left) (λ pairs. append-nil (pairs ++ alone Left)) (met_pairs condition us vs)
  dependent-rows Right d = absurd (true≢false (sym d))
  dependent-rows Full d = absurd (true≢false (sym d))

module _ (kind : JoinKind) (width : ℕ) (u : Row) where
  -- what stands beside a left row that meets no other
  abbrev kept_alone : Bag → Bag
  kept_alone found = cond (is_some_row found) [] (cond (keeps_left kind) ((u ++ nulls width) ∷ []) [])

  under-is : (found : Bag) → under kind width u found ≡ map (λ w. u ++ w) found ++ kept_alone found
  under-is [] = refl
  under-is (v ∷ vs) = sym (append-nil (map (λ w. u ++ w) (v ∷ vs)))

-- ---- the join

module _ (kind : JoinKind) (left right : Query) (spine : Spine) (outer : List (List Kind)) (db : Database) (env : List Row)
    (is : IsSpine (width_of left) right spine) (suits : Suits kind (width_of left) spine.items) (fitting : Fitting outer (ApplyOf kind left right) db env) where
  abbrev vs : Bag
  vs = good_rows (meaning spine.base db env)

  base-good : meaning spine.base db env ≡ Good vs
  base-good = good_rows-is (meaning spine.base db env) (good-query spine.base (spine-fault_free is) db env)

  base-under : (u : Row) → meaning spine.base db (u ∷ env) ≡ Good vs
  base-under u =
      (λ i. (denote-closed spine.base db (u ∷ env) env (base-formed kind left right spine is (kinds_of left) outer [] fitting.formed.right) i).rows) ∙ base-good

  base-fitting : Fitting outer spine.base db env
  base-fitting = record {
    formed = base-formed kind left right spine is (kinds_of left) outer outer fitting.formed.right;
    tables = spine-tables (λ id kinds. bag_fits (db id) kinds ≡ true) is fitting.tables.1;
    outer_rows = fitting.outer_rows;
  }

  wide : (v : Row) → IsIn v vs → length v ≡ width_of spine.base
  wide v h = row_fits-length v (kinds_of spine.base) (each-in (RowFits (kinds_of spine.base)) v vs (rows_have-kinds outer spine.base db env vs base-fitting base-good) h).fit

  abbrev condition : Row → Outcome Value
  condition = condition_on (condition_or_true spine.test) env no_subs

  abbrev items : List Item
  items = items_behind 0 (kinds_of left) ++ spine.items

  abbrev make : Row → Row
  make x = row_by items env x

  made : (x : Row) → items_on items env no_subs x ≡ Good (make x)
  made x = items-good items env x (items_faultless-append (items_behind 0 (kinds_of left)) spine.items (behind-faultless 0 (kinds_of left)) (spine-faultless is))

  abbrev found : Row → Outcome Bag
  found u = gather (λ v. spine_row spine env (u ++ v)) vs

  module _ (us : Bag) (good : meaning left db env ≡ Good us) where
    left-fitting : Fitting outer left db env
    left-fitting = record { formed = fitting.formed.left; tables = fitting.tables.0; outer_rows = fitting.outer_rows }

    fits : (u : Row) → IsIn u us → RowFits (kinds_of left) u
    fits u h = each-in (RowFits (kinds_of left)) u us (rows_have-kinds outer left db env us left-fitting good) h

    long : (u : Row) → IsIn u us → length u ≡ length (kinds_of left)
    long u h = row_fits-length u (kinds_of left) (fits u h).fit

    right-is : (u : Row) → IsIn u us → meaning right db (u ∷ env) ≡ found u
    right-is u h =
        spine-rows (kinds_of left) outer db env u (fits-begins u (kinds_of left) (fits u h).fit) (long u h) vs is fitting.formed.right (base-under u) wide

    -- the left row, and what the spine's items make
    make-is : (u rest : Row) → IsIn u us → make (u ++ rest) ≡ u ++ row_by spine.items env (u ++ rest)
    make-is u rest h =
        ap good_row (items-both (items_behind 0 (kinds_of left)) spine.items env (u ++ rest) u (row_by spine.items env (u ++ rest))
        (behind-give env (kinds_of left) [] u rest (long u h)) (items-good spine.items env (u ++ rest) (spine-faultless is)))

    abbrev dependent : Outcome Bag
    dependent = gather (λ u. mapped (under kind (width_of right) u) (meaning right db (u ∷ env))) us

    abbrev in_parts : Outcome Bag
    in_parts = gather (λ u. mapped (λ rows. map (λ w. u ++ w) rows ++ kept_alone kind (width_of right) u rows) (found u)) us

    dependent-is : dependent ≡ in_parts
    dependent-is =
        gather-on (λ u. mapped (under kind (width_of right) u) (meaning right db (u ∷ env)))
        (λ u. mapped (λ rows. map (λ w. u ++ w) rows ++ kept_alone kind (width_of right) u rows) (found u)) us
        (λ u h. ap (mapped (under kind (width_of right) u)) (right-is u h) ∙ mapped-same _ _ (under-is kind (width_of right) u) (found u))

    abbrev met : Outcome Bag
    met = gather (λ u. mapped (map (λ w. u ++ w)) (found u)) us

    abbrev others : Bag
    others = flat_map (λ u. kept_alone kind (width_of right) u (good_rows (found u))) us

    -- a pair that meets the test
    one-met : (u v : Row) → IsIn u us → (o : Outcome Value) → mapped (map make) (where_holds (u ++ v) o) ≡ mapped (map (λ w. u ++ w)) (where_holds (row_by spine.items env (u ++ v)) o)
    one-met u v h (Good y) = ap Good (by_holding (holds_of y)) where
      by_holding : (b : Bool) → map make (cond b ((u ++ v) ∷ []) []) ≡ map (λ w. u ++ w) (cond b (row_by spine.items env (u ++ v) ∷ []) [])
      by_holding true = ap (λ row. row ∷ []) (make-is u v h)
      by_holding false = refl
    one-met u v h (Bad faults) = refl

    pairs-met : mapped (map make) (met_pairs condition us vs) ≡ met
    pairs-met =
        map-gather make (λ u. gather (λ v. kept condition (u ++ v)) vs) us
        ∙ gather-on (λ u. mapped (map make) (gather (λ v. kept condition (u ++ v)) vs)) (λ u. mapped (map (λ w. u ++ w)) (found u)) us
        (λ u h. map-gather make (λ v. kept condition (u ++ v)) vs
        ∙ gather-on (λ v. mapped (map make) (kept condition (u ++ v))) (λ v. mapped (map (λ w. u ++ w)) (spine_row spine env (u ++ v))) vs
        (λ v i. one-met u v h (value (condition_or_true spine.test) (u ++ v) env []))
        ∙ sym (map-gather (λ w. u ++ w) (λ v. spine_row spine env (u ++ v)) vs))

    -- a left row that meets none, beside NULLs
    null-made : all_behind (width_of left) spine.items ≡ true → (u : Row) → IsIn u us → make (u ++ nulls (width_of spine.base)) ≡ u ++ nulls (width_of right)
    null-made h u i =
        make-is u (nulls (width_of spine.base)) i
        ∙ ap (λ row. u ++ row) (ap good_row (all-null env u (width_of spine.base) spine.items (subst (λ n. all_behind n spine.items ≡ true) (sym (long u i)) h))
        ∙ ap nulls (sym (kinds-length spine.items) ∙ ap length (spine-kinds is)))

    others-made : (k : JoinKind) → (keeps_left k ≡ true → all_behind (width_of left) spine.items ≡ true) → (rows : Bag) → met ≡ Good rows → is_dependent k ≡ true →
        map make (alone condition 0 (width_of spine.base) us vs k) ≡ flat_map (λ u. kept_alone k (width_of right) u (good_rows (found u))) us
    others-made Inner s rows e d = nothing-each (λ u. is_some_row (good_rows (found u))) us
    others-made Left s rows e d =
        map-map make (λ u. u ++ nulls (width_of spine.base)) (unmatched_left condition us vs)
        ∙ alone-rows (λ u. make (u ++ nulls (width_of spine.base))) (λ u. u ++ nulls (width_of right)) (λ u. list_any (λ v. is_met (condition (u ++ v))) vs)
        (λ u. is_some_row (good_rows (found u))) us
        (λ u h. let each_found = good-of (λ u. map (λ w. u ++ w)) found us rows e u h in
        ap (λ o. is_some_row (good_rows o)) each_found.1
        ∙ found-met (λ v. row_by spine.items env (u ++ v)) (λ v. value (condition_or_true spine.test) (u ++ v) env []) vs each_found.0 each_found.1)
        (null-made (s refl))
    others-made Right s rows e d = absurd (true≢false (sym d))
    others-made Full s rows e d = absurd (true≢false (sym d))

    joined-is : and_then (joined_rows kind condition (width_of left) (width_of spine.base) us vs) (each (items_on items env no_subs)) ≡ mapped (λ rows. rows ++ others) met
    joined-is =
        then-each (items_on items env no_subs) make made (joined_rows kind condition (width_of left) (width_of spine.base) us vs)
        ∙ ap (mapped (map make)) (dependent-rows condition (width_of left) (width_of spine.base) us vs kind fitting.formed.dependent)
        ∙ mapped-twice (map make) (λ pairs. pairs ++ alone condition 0 (width_of spine.base) us vs kind) (met_pairs condition us vs)
        ∙ mapped-same (λ pairs. map make (pairs ++ alone condition 0 (width_of spine.base) us vs kind)) (λ pairs. map make pairs ++ map make (alone condition 0 (width_of spine.base) us vs kind))
        (λ pairs. map-append make pairs (alone condition 0 (width_of spine.base) us vs kind)) (met_pairs condition us vs)
        ∙ sym (mapped-twice (λ rows. rows ++ map make (alone condition 0 (width_of spine.base) us vs kind)) (map make) (met_pairs condition us vs))
        ∙ ap (mapped (λ rows. rows ++ map make (alone condition 0 (width_of spine.base) us vs kind))) pairs-met
        ∙ where_good met (λ rows. rows ++ map make (alone condition 0 (width_of spine.base) us vs kind)) (λ rows. rows ++ others)
        (λ rows e. ap (λ more. rows ++ more) (others-made kind suits rows e fitting.formed.dependent))

    good-join : SameRows dependent (and_then (joined_rows kind condition (width_of left) (width_of spine.base) us vs) (each (items_on items env no_subs)))
    good-join =
        across dependent-is joined-is
        (parts-apart (λ u rows. map (λ w. u ++ w) rows) (λ u rows. kept_alone kind (width_of right) u rows) found good_rows (λ rows. refl) us)

  by_left : (o : Outcome Bag) → meaning left db env ≡ o →
      SameRows (and_then o (gather (λ u. mapped (under kind (width_of right) u) (meaning right db (u ∷ env)))))
      (and_then (both_then o (Good vs) (joined_rows kind condition (width_of left) (width_of spine.base))) (each (items_on items env no_subs)))
  by_left (Good us) e = good-join us e
  by_left (Bad faults) e = refl

  pub rows-spine_join : SameRows (meaning (ApplyOf kind left right) db env) (meaning (spine_join kind left spine) db env)
  rows-spine_join =
      across (rows-with_lists _ _)
      (meaning-projected (JoinOf kind left spine.base (condition_or_true spine.test) [] end_of-Sublink) items db env
      ∙ ap (λ o. and_then o (each (items_on items env no_subs))) (meaning-pairs kind left spine.base (condition_or_true spine.test) db env
      ∙ ap (λ o. both_then (meaning left db env) o (joined_rows kind condition (width_of left) (width_of spine.base))) base-good))
      (by_left (meaning left db env) refl)

-- where the left side is bad, so is the join: the base never is
pub bad-spine_join : (kind : JoinKind) (left right : Query) (spine : Spine) (db : Database) (env : List Row) (faults : Faults) → IsSpine (width_of left) right spine →
    meaning left db env ≡ Bad faults → meaning (spine_join kind left spine) db env ≡ Bad faults
bad-spine_join kind left right spine db env faults is e =
    let good = good_rows-is (meaning spine.base db env) (good-query spine.base (spine-fault_free is) db env) in
    meaning-projected (JoinOf kind left spine.base (condition_or_true spine.test) [] end_of-Sublink) (items_behind 0 (kinds_of left) ++ spine.items) db env
    ∙ ap (λ o. and_then o (each (items_on (items_behind 0 (kinds_of left) ++ spine.items) env no_subs)))
    (meaning-pairs kind left spine.base (condition_or_true spine.test) db env
    ∙ (λ i. both_then (e i) (good i) (joined_rows kind (condition_on (condition_or_true spine.test) env no_subs) (width_of left) (width_of spine.base))))
