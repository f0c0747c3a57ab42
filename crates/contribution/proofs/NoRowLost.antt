-- A row of a good answer has a witness list.
use Rattle.std.proofs.Common.{◌≡◌, ℕ, inl, inr, Bool, true, false, cond, not, ◌&&◌, List, [], ◌∷◌, ◌++◌, map, filter, take, refl, sym, ap, ◌∙◌, subst}
use Rattle.std.specs.List.{flat_map, list_any}
use mathlib.Core.Bool.{true≢false}
use Rattle.perm_values.specs.Rows.{same_row, picked, printed_cmp}
use Rattle.perm_values.specs.ValueLaws.{row_decides}
use Rattle.perm_values.specs.declared.key.Key.{Key}
use Rattle.perm_values.specs.declared.value.Value.{Value}
use Rattle.bag_algebra.proofs.Columns.{in-with_lists}
use Rattle.bag_algebra.proofs.Members.{IsIn, in-map, from-map, in-append_left, in-append_right, from-append, in-flat_map, in-filter, from-filter}
use Rattle.bag_algebra.specs.Bags.{Row, Bag, once, nulls, sorted, union_of, intersect_of, except_of}
use Rattle.bag_algebra.specs.Means.{Means, Witness, Held, Blanks, with_lists, paired, beside, good_rows, base_means, filter_means, project_means, join_means, joined_rows, keeps_left, keeps_right, met_pairs, unmatched_left, unmatched_right, pair_lists, left_lists, right_lists, is_met, under, lists_under, apply_means, kept, gives, union_means, intersect_means, except_means, differing_lists, distinct_means, limit_means, unlisted_means, aggregate_means, class_lists, grouped, contribution_of, chosen, is_some_row, good_value, all_empty}
use Rattle.bag_algebra.specs.Outcome.{Outcome, Good, Bad, mapped, gather, each}
use Rattle.bag_algebra.specs.Kinds.{shape, width_of}
use Rattle.bag_algebra.specs.Meaning.{Database, denote, sub_denote, optional_value, condition_on, arguments_on}
use Rattle.bag_algebra.specs.built.Patterns.{BaseOf, FilterOf, ProjectOf, JoinOf, ApplyOf, UnionOf, IntersectOf, ExceptOf, DistinctOf, AggregateOf, LimitOf, ProvOf}
use Rattle.bag_algebra.specs.declared.query.AggFn.{AggFn}
use Rattle.bag_algebra.specs.declared.query.Aggr.{Aggr}
use Rattle.bag_algebra.specs.declared.query.JoinKind.{JoinKind}
use Rattle.bag_algebra.specs.declared.query.SubKind.{SubKind}
use Rattle.bag_algebra.specs.declared.query.Query.{Query, Row_of-Sublink, more_of-Sublink, end_of-Sublink}
use Rattle.bag_algebra.specs.declared.query.Query.TheVariants.{Table, Single}
use Rattle.contribution.proofs.BagMembers.{from-once, from-union, from-intersect, from-except, from-take, from-sorted}
use Rattle.contribution.proofs.Classes.{OfClass, from-grouped, some_of_class}
use Rattle.contribution.proofs.GoodRows.{from-and_then, from-mapped, from-both, from-both_then, from-gather, from-each, from-kept}
use Rattle.contribution.proofs.TruthKept.{from-chosen, some_chosen}

-- there is a list
abbrev pub Listed : List Witness → Type 0
Listed ws = (w : Witness) × IsIn w ws

-- each row of the answer has a list
pub record NoneLost (m : Means) : Type 0 where
  pub listed : (t : Row) → IsIn t (good_rows m.rows) → Listed (m.lists t)

-- each sublink contributes a list
abbrev pub AllListed : List (List Witness) → Type 0
AllListed [] = Unit
AllListed (ws ∷ more) = Listed ws × AllListed more

pub none_lost-with_lists : (rows : Outcome Bag) (lists : Row → List Witness) → ((t : Row) → IsIn t (good_rows rows) → Listed (lists t)) → NoneLost (with_lists rows lists)
none_lost-with_lists (Good bag) lists f = record {
  listed = λ t h. let found = f t h in (found.0, in-with_lists bag lists t found.0 h found.1);
}
none_lost-with_lists (Bad faults) lists f = record { listed = λ t h. absurd h }

-- ---- lists beside one another

pub listed-paired : (vs ws : List Witness) → Listed vs → Listed ws → Listed (paired vs ws)
listed-paired vs ws l r = (l.0 ++ r.0, in-flat_map (λ v. map (λ w. v ++ w) ws) (l.0 ++ r.0) l.0 vs l.1 (in-map (λ w. l.0 ++ w) r.0 ws r.1))

pub listed-beside : (ws : List Witness) (more : List (List Witness)) → Listed ws → AllListed more → Listed (beside ws more)
listed-beside ws [] l all = l
listed-beside ws (contributions ∷ more) l all = listed-beside (paired ws contributions) more (listed-paired ws contributions l all.0) all.1

listed-map : (f : Witness → Witness) (ws : List Witness) → Listed ws → Listed (map f ws)
listed-map f ws l = (f l.0, in-map f l.0 ws l.1)

listed-left : (vs ws : List Witness) → Listed vs → Listed (vs ++ ws)
listed-left vs ws l = (l.0, in-append_left l.0 vs ws l.1)

listed-right : (vs ws : List Witness) → Listed ws → Listed (vs ++ ws)
listed-right vs ws l = (l.0, in-append_right l.0 vs ws l.1)

listed-flat_map : {X : Type 0} (f : X → List Witness) (x : X) (xs : List X) → IsIn x xs → Listed (f x) → Listed (flat_map f xs)
listed-flat_map f x xs h l = (l.0, in-flat_map f l.0 x xs h l.1)

-- ---- sources

pub none_lost-unlisted : (rows : Outcome Bag) → NoneLost (unlisted_means rows)
none_lost-unlisted rows = none_lost-with_lists rows _ (λ t h. ([], inl refl))

pub none_lost-base : (places : List ℕ) (m : Means) → NoneLost (base_means places m)
none_lost-base places m = none_lost-with_lists m.rows _ (λ t h. (Held (picked places t) ∷ [], inl refl))

-- ---- Filter and Project

pub none_lost-filter : (condition : Row → Outcome Value) (contributions : Row → List (List Witness)) (m : Means) →
    ((u : Row) → AllListed (contributions u)) → NoneLost m → NoneLost (filter_means condition contributions m)
none_lost-filter condition contributions m all n = none_lost-with_lists _ _ (λ t h.
    let from = from-gather (kept condition) t (good_rows m.rows) (from-and_then m.rows (gather (kept condition)) t h) in
    let same = (from-kept condition from.0 t from.2).0 in
    listed-beside (m.lists t) (contributions t) (n.listed t (subst (λ u. IsIn u (good_rows m.rows)) same from.1)) (all t))

pub gives-good : (t : Row) (o : Outcome Row) → o ≡ Good t → gives t o ≡ true
gives-good t o e = ap (gives t) e ∙ (row_decides t t).1 refl

pub none_lost-project : (items : Row → Outcome Row) (contributions : Row → List (List Witness)) (m : Means) →
    ((u : Row) → AllListed (contributions u)) → NoneLost m → NoneLost (project_means items contributions m)
none_lost-project items contributions m all n = none_lost-with_lists _ _ (λ t h.
    let from = from-each items t (good_rows m.rows) (from-and_then m.rows (each items) t h) in
    let u = from.0 in
    listed-flat_map (λ u. beside (m.lists u) (contributions u)) u (filter (λ u. gives t (items u)) (good_rows m.rows))
    (in-filter (λ u. gives t (items u)) u (good_rows m.rows) from.1 (gives-good t (items u) from.2))
    (listed-beside (m.lists u) (contributions u) (n.listed u from.1) (all u)))

-- ---- joins

-- a pair of rows that meets the condition and makes t
pub record MadeBy (condition : Row → Outcome Value) (us vs : Bag) (t : Row) : Type 0 where
  pub left : Row
  pub right : Row
  pub in_left : IsIn left us
  pub in_right : IsIn right vs
  pub makes : left ++ right ≡ t
  pub met : is_met (condition (left ++ right)) ≡ true

pub from-met_pairs : (condition : Row → Outcome Value) (us vs : Bag) (t : Row) → IsIn t (good_rows (met_pairs condition us vs)) → MadeBy condition us vs t
from-met_pairs condition us vs t h =
    let l = from-gather (λ u. gather (λ v. kept condition (u ++ v)) vs) t us h in
    let r = from-gather (λ v. kept condition (l.0 ++ v)) t vs l.2 in
    let k = from-kept condition (l.0 ++ r.0) t r.2 in
    record { left = l.0; right = r.0; in_left = l.1; in_right = r.1; makes = k.0; met = k.1 }

listed-if : (b d : Bool) (ws : List Witness) → b ≡ true → d ≡ true → Listed ws → Listed (cond (b && d) ws [])
listed-if true true ws p q l = l
listed-if true false ws p q l = absurd (true≢false (sym q))
listed-if false d ws p q l = absurd (true≢false (sym p))

module _ (condition : Row → Outcome Value) (contributions : Row → List (List Witness)) (l r : Means) (us vs : Bag) (t : Row) where
  listed-pair : ((u : Row) → AllListed (contributions u)) → (m : MadeBy condition us vs t) → Listed (l.lists m.left) → Listed (r.lists m.right) →
      Listed (pair_lists condition contributions l r us vs t)
  listed-pair all m p q =
      let u = m.left in
      let v = m.right in
      listed-flat_map _ u us m.in_left (listed-flat_map _ v vs m.in_right
      (listed-if (same_row (u ++ v) t) (is_met (condition (u ++ v))) _ ((row_decides (u ++ v) t).1 m.makes) m.met
      (listed-beside (paired (l.lists u) (r.lists v)) (contributions (u ++ v)) (listed-paired (l.lists u) (r.lists v) p q) (all (u ++ v)))))

-- what an unmatched row of a kept side gives is given by such a row
pub from-blanked : (keeps : Bool) (f : Row → Row) (us : Bag) (t : Row) → IsIn t (cond keeps (map f us) []) → (keeps ≡ true) × (u : Row) × IsIn u us × (f u ≡ t)
from-blanked true f us t h = let found = from-map f t us h in (refl, found.0, found.1, found.2)
from-blanked false f us t h = absurd h

-- a joined row is made by a pair, or by an unmatched row of a kept side
pub data Joined (kind : JoinKind) (condition : Row → Outcome Value) (left_width right_width : ℕ) (us vs : Bag) (t : Row) : Type 0 where
  pair : MadeBy condition us vs t → Joined kind condition left_width right_width us vs t
  left_alone : keeps_left kind ≡ true → (u : Row) → IsIn u (unmatched_left condition us vs) → u ++ nulls right_width ≡ t → Joined kind condition left_width right_width us vs t
  right_alone : keeps_right kind ≡ true → (v : Row) → IsIn v (unmatched_right condition us vs) → nulls left_width ++ v ≡ t → Joined kind condition left_width right_width us vs t

module _ (kind : JoinKind) (condition : Row → Outcome Value) (left_width right_width : ℕ) (us vs : Bag) (t : Row) where
  abbrev lefts : Bag
  lefts = cond (keeps_left kind) (map (λ u. u ++ nulls right_width) (unmatched_left condition us vs)) []

  abbrev rights : Bag
  rights = cond (keeps_right kind) (map (λ v. nulls left_width ++ v) (unmatched_right condition us vs)) []

  from-parts : (pairs : Bag) → (IsIn t pairs → MadeBy condition us vs t) → IsIn t (pairs ++ lefts ++ rights) → Joined kind condition left_width right_width us vs t
  from-parts pairs made h = elim (from-append t (pairs ++ lefts) rights h) [
    | inl more ↦ elim (from-append t pairs lefts more) [
      | inl p ↦ pair (made p)
      | inr p ↦ let found = from-blanked (keeps_left kind) (λ u. u ++ nulls right_width) (unmatched_left condition us vs) t p in left_alone found.0 found.1 found.2 found.3
    ]
    | inr p ↦ let found = from-blanked (keeps_right kind) (λ v. nulls left_width ++ v) (unmatched_right condition us vs) t p in right_alone found.0 found.1 found.2 found.3
  ]

  pub from-joined_rows : IsIn t (good_rows (joined_rows kind condition left_width right_width us vs)) → Joined kind condition left_width right_width us vs t
  from-joined_rows h =
      from-parts (good_rows (met_pairs condition us vs)) (from-met_pairs condition us vs t)
      (from-mapped (λ pairs. pairs ++ lefts ++ rights) (met_pairs condition us vs) t h)

kept_side : (b : Bool) (ws : List Witness) → b ≡ true → Listed ws → Listed (cond b ws [])
kept_side true ws e l = l
kept_side false ws e l = absurd (true≢false (sym e))

pub none_lost-join : (kind : JoinKind) (condition : Row → Outcome Value) (contributions : Row → List (List Witness)) (blanks : Blanks) (left_width right_width : ℕ) (l r : Means) →
    ((u : Row) → AllListed (contributions u)) → NoneLost l → NoneLost r → NoneLost (join_means kind condition contributions blanks left_width right_width l r)
none_lost-join kind condition contributions blanks left_width right_width l r all p q = none_lost-with_lists _ _ (λ t h.
    let us = good_rows l.rows in
    let vs = good_rows r.rows in
    let pairs = pair_lists condition contributions l r us vs t in
    let lefts = cond (keeps_left kind) (left_lists condition l blanks right_width us vs t) [] in
    let rights = cond (keeps_right kind) (right_lists condition r blanks left_width us vs t) [] in
    elim (from-joined_rows kind condition left_width right_width us vs t (from-both_then l.rows r.rows (joined_rows kind condition left_width right_width) t h)) [
      | pair m ↦ listed-left (pairs ++ lefts) rights (listed-left pairs lefts
          (listed-pair condition contributions l r us vs t all m (p.listed m.left m.in_left) (q.listed m.right m.in_right)))
      | left_alone keeps u here makes ↦ listed-left (pairs ++ lefts) rights (listed-right pairs lefts (kept_side (keeps_left kind) _ keeps
          (listed-flat_map (λ u. map (λ w. w ++ blanks.right ++ blanks.subs) (l.lists u)) u _
          (in-filter (λ u. same_row (u ++ nulls right_width) t) u (unmatched_left condition us vs) here ((row_decides _ t).1 makes))
          (listed-map (λ w. w ++ blanks.right ++ blanks.subs) (l.lists u) (p.listed u (from-filter _ u us here).0)))))
      | right_alone keeps v here makes ↦ listed-right (pairs ++ lefts) rights (kept_side (keeps_right kind) _ keeps
          (listed-flat_map (λ v. map (λ w. blanks.left ++ w ++ blanks.subs) (r.lists v)) v _
          (in-filter (λ v. same_row (nulls left_width ++ v) t) v (unmatched_right condition us vs) here ((row_decides _ t).1 makes))
          (listed-map (λ w. blanks.left ++ w ++ blanks.subs) (r.lists v) (q.listed v (from-filter _ v vs here).0))))
    ])

-- ---- dependent joins

-- a row that stands beside a left row is made by a right row, or by NULLs where there is none
pub data Under (kind : JoinKind) (width : ℕ) (u : Row) (t : Row) : Bag → Type 0 where
  beside_right : {vs : Bag} (v : Row) → IsIn v vs → u ++ v ≡ t → Under kind width u t vs
  beside_nulls : keeps_left kind ≡ true → u ++ nulls width ≡ t → Under kind width u t []

module _ (kind : JoinKind) (width : ℕ) (u t : Row) where
  from-nulls : (keeps : Bool) → keeps_left kind ≡ keeps → IsIn t (cond keeps ((u ++ nulls width) ∷ []) []) → Under kind width u t []
  from-nulls true e (inl makes) = beside_nulls e makes
  from-nulls true e (inr h) = absurd h
  from-nulls false e h = absurd h

  pub from-under : (vs : Bag) → IsIn t (under kind width u vs) → Under kind width u t vs
  from-under [] h = from-nulls (keeps_left kind) refl h
  from-under (v ∷ vs) h = let found = from-map (λ w. u ++ w) t (v ∷ vs) h in beside_right found.0 found.1 found.2

  in-nulls : (keeps : Bool) → keeps ≡ true → u ++ nulls width ≡ t → IsIn t (cond keeps ((u ++ nulls width) ∷ []) [])
  in-nulls true e makes = inl makes
  in-nulls false e makes = absurd (true≢false (sym e))

  in-right : (vs : Bag) (v : Row) → IsIn v vs → u ++ v ≡ t → IsIn t (under kind width u vs)
  in-right [] v h makes = absurd h
  in-right (x ∷ vs) v h makes = subst (λ w. IsIn w (map (λ w. u ++ w) (x ∷ vs))) makes (in-map (λ w. u ++ w) v (x ∷ vs) h)

  pub in-under : {vs : Bag} → Under kind width u t vs → IsIn t (under kind width u vs)
  in-under (beside_right {vs} v h makes) = in-right vs v h makes
  in-under (beside_nulls keeps makes) = in-nulls (keeps_left kind) keeps makes

  module _ (blank : Witness) (ws : List Witness) (lists : Row → List Witness) (listed : Listed ws) where
    listed-right_row : (vs : Bag) (v : Row) → IsIn v vs → u ++ v ≡ t → Listed (lists v) → Listed (lists_under kind width blank ws lists t u vs)
    listed-right_row [] v h makes l = absurd h
    listed-right_row (x ∷ vs) v h makes l =
        listed-flat_map (λ y. cond (same_row (u ++ y) t) (paired ws (lists y)) []) v (x ∷ vs) h
        (kept_side (same_row (u ++ v) t) (paired ws (lists v)) ((row_decides (u ++ v) t).1 makes) (listed-paired ws (lists v) listed l))

    listed-under : {vs : Bag} → Under kind width u t vs → ((v : Row) → IsIn v vs → Listed (lists v)) → Listed (lists_under kind width blank ws lists t u vs)
    listed-under (beside_right {vs} v h makes) l = listed-right_row vs v h makes (l v h)
    listed-under (beside_nulls keeps makes) l =
        listed-if (keeps_left kind) (same_row (u ++ nulls width) t) (map (λ w. w ++ blank) ws) keeps ((row_decides (u ++ nulls width) t).1 makes)
        (listed-map (λ w. w ++ blank) ws listed)

pub none_lost-apply : (kind : JoinKind) (width : ℕ) (blank : Witness) (l : Means) (r : Row → Means) → NoneLost l → ((u : Row) → NoneLost (r u)) →
    NoneLost (apply_means kind width blank l r)
none_lost-apply kind width blank l r p q = none_lost-with_lists _ _ (λ t h.
    let beside_left : Row → Outcome Bag = λ u. mapped (under kind width u) (r u).rows in
    let from = from-gather beside_left t (good_rows l.rows) (from-and_then l.rows (gather beside_left) t h) in
    let u = from.0 in
    listed-flat_map (λ u. lists_under kind width blank (l.lists u) (r u).lists t u (good_rows (r u).rows)) u (good_rows l.rows) from.1
    (listed-under kind width u t blank (l.lists u) (r u).lists (p.listed u from.1)
    (from-under kind width u t (good_rows (r u).rows) (from-mapped (under kind width u) (r u).rows t from.2)) (q u).listed))

-- ---- set operations

pub none_lost-union : (all : Bool) (left_blank right_blank : Witness) (l r : Means) → NoneLost l → NoneLost r → NoneLost (union_means all left_blank right_blank l r)
none_lost-union all left_blank right_blank l r p q = none_lost-with_lists _ _ (λ t h.
    let lefts = map (λ w. w ++ right_blank) (l.lists t) in
    let rights = map (λ w. left_blank ++ w) (r.lists t) in
    elim (from-union all t (good_rows l.rows) (good_rows r.rows) (from-both (union_of all) l.rows r.rows t h)) [
      | inl g ↦ listed-left lefts rights (listed-map (λ w. w ++ right_blank) (l.lists t) (p.listed t g))
      | inr g ↦ listed-right lefts rights (listed-map (λ w. left_blank ++ w) (r.lists t) (q.listed t g))
    ])

pub none_lost-intersect : (all : Bool) (l r : Means) → NoneLost l → NoneLost r → NoneLost (intersect_means all l r)
none_lost-intersect all l r p q = none_lost-with_lists _ _ (λ t h.
    let found = from-intersect all t (good_rows l.rows) (good_rows r.rows) (from-both (intersect_of all) l.rows r.rows t h) in
    listed-paired (l.lists t) (r.lists t) (p.listed t found.0) (q.listed t found.1))

-- the lists of some rows that each have one, or the blank where there is no row
listed-some : (blank : Witness) (lists : Row → List Witness) (rows : Bag) → ((v : Row) → IsIn v rows → Listed (lists v)) →
    Listed (cond (list_any (λ v. true) rows) (flat_map lists rows) (blank ∷ []))
listed-some blank lists [] each_listed = (blank, inl refl)
listed-some blank lists (v ∷ vs) each_listed = listed-left (lists v) (flat_map lists vs) (each_listed v (inl refl))

pub listed-differing : (blank : Witness) (r : Means) (t : Row) → NoneLost r → Listed (differing_lists blank r t)
listed-differing blank r t q =
    listed-some blank r.lists (filter (λ v. not (same_row v t)) (good_rows r.rows))
    (λ v h. q.listed v (from-filter (λ v. not (same_row v t)) v (good_rows r.rows) h).0)

pub none_lost-except : (all : Bool) (right_blank : Witness) (l r : Means) → NoneLost l → NoneLost r → NoneLost (except_means all right_blank l r)
none_lost-except all right_blank l r p q = none_lost-with_lists _ _ (λ t h.
    listed-paired (l.lists t) (differing_lists right_blank r t)
    (p.listed t (from-except all t (good_rows l.rows) (good_rows r.rows) (from-both (except_of all) l.rows r.rows t h)))
    (listed-differing right_blank r t q))

-- ---- Distinct and Limit

pub none_lost-distinct : (m : Means) → NoneLost m → NoneLost (distinct_means m)
none_lost-distinct m n = none_lost-with_lists _ _ (λ t h. n.listed t (from-once t (good_rows m.rows) (from-mapped once m.rows t h)))

pub none_lost-limit : (keys : List Key) (count : ℕ) (m : Means) → NoneLost m → NoneLost (limit_means keys count m)
none_lost-limit keys count m n = none_lost-with_lists _ _ (λ t h.
    n.listed t (from-sorted (printed_cmp keys) t (good_rows m.rows) (from-take t count (sorted (printed_cmp keys) (good_rows m.rows))
    (from-mapped (λ bag. take count (sorted (printed_cmp keys) bag)) m.rows t h))))

-- ---- grouping

module _ (groups : List ℕ) (blank : Witness) (m : Means) where
  listed-class : (us : Bag) (t : Row) → OfClass groups us t → ((v : Row) → IsIn v us → Listed (m.lists v)) → Listed (class_lists groups blank m us t)
  listed-class [] t c all = (blank, inl refl)
  listed-class (u ∷ us) t c all = let found = some_of_class groups u us t c in listed-flat_map m.lists found.0 _ found.2 (all found.0 found.1)

pub none_lost-aggregate : (groups : List ℕ) (functions : List AggFn) (arguments : Row → Outcome Row) (blank : Witness) (m : Means) →
    NoneLost m → NoneLost (aggregate_means groups functions arguments blank m)
none_lost-aggregate groups functions arguments blank m n = none_lost-with_lists _ _ (λ t h.
    listed-class groups blank m (good_rows m.rows) t
    (from-grouped groups functions arguments (good_rows m.rows) t (from-and_then m.rows (grouped groups functions arguments) t h)) n.listed)

-- ---- sublinks

listed-chosen : (blank : Witness) (kind : SubKind) (x : Value) (lists : Row → List Witness) (bag : Bag) → ((v : Row) → IsIn v bag → Listed (lists v)) →
    Listed (cond (is_some_row bag) (flat_map lists (chosen kind x bag)) (blank ∷ []))
listed-chosen blank kind x lists [] all = (blank, inl refl)
listed-chosen blank kind x lists (row ∷ rows) all =
    let found = some_chosen kind x row rows in
    listed-flat_map lists found.0 _ found.1 (all found.0 (from-chosen kind x (row ∷ rows) found.0 found.1))

-- each sublink contributes at least one list
pub listed-contribution : (blank : Witness) (kind : SubKind) (x : Value) (m : Means) → NoneLost m → Listed (contribution_of blank kind x m)
listed-contribution blank kind x m n = listed-chosen blank kind x m.lists (good_rows m.rows) n.listed

-- ---- all queries

mutual
  pub none_lost : (q : Query) (db : Database) (env : List Row) → NoneLost (denote q db env)
  none_lost (Table id kinds) db env = none_lost-unlisted (Good (db id))
  none_lost Single db env = none_lost-unlisted (Good ([] ∷ []))
  none_lost (BaseOf input places label) db env = none_lost-base places (denote input db env)
  none_lost (FilterOf input condition _ subs) db env =
      none_lost-filter _ _ (denote input db env) (none_lost-subs subs db env) (none_lost input db env)
  none_lost (ProjectOf input items _ subs) db env =
      none_lost-project _ _ (denote input db env) (none_lost-subs subs db env) (none_lost input db env)
  none_lost (JoinOf kind left right condition _ subs) db env =
      let s = sub_denote subs db env in
      none_lost-join kind (condition_on condition env s) s.contributions
      (record { left = all_empty (shape left); right = all_empty (shape right); subs = s.blank }) (width_of left) (width_of right) (denote left db env) (denote right db env) (none_lost-subs subs db env) (none_lost left db env) (none_lost right db env)
  none_lost (ApplyOf kind left right) db env =
      none_lost-apply kind (width_of right) (all_empty (shape right)) (denote left db env) (λ u. denote right db (u ∷ env)) (none_lost left db env)
      (λ u. none_lost right db (u ∷ env))
  none_lost (UnionOf all left right) db env =
      none_lost-union all _ _ (denote left db env) (denote right db env) (none_lost left db env) (none_lost right db env)
  none_lost (IntersectOf all left right) db env =
      none_lost-intersect all (denote left db env) (denote right db env) (none_lost left db env) (none_lost right db env)
  none_lost (ExceptOf all left right) db env =
      none_lost-except all _ (denote left db env) (denote right db env) (none_lost left db env) (none_lost right db env)
  none_lost (DistinctOf input) db env = none_lost-distinct (denote input db env) (none_lost input db env)
  none_lost (AggregateOf input groups aggregates) db env =
      none_lost-aggregate groups (map (λ (aggregate : Aggr). aggregate.function) aggregates) (arguments_on aggregates env) (all_empty (shape input))
      (denote input db env) (none_lost input db env)
  none_lost (LimitOf input keys count) db env = none_lost-limit keys count (denote input db env) (none_lost input db env)
  none_lost (ProvOf input) db env = none_lost-unlisted _

  pub none_lost-subs : {m : _} (subs : Row_of-Sublink m) (db : Database) (env : List Row) (u : Row) → AllListed ((sub_denote subs db env).contributions u)
  none_lost-subs end_of-Sublink db env u = tt
  none_lost-subs (more_of-Sublink kind tested query subs) db env u =
      (listed-contribution (all_empty (shape query)) kind (good_value (optional_value tested env u)) (denote query db (u ∷ env)) (none_lost query db (u ∷ env)), none_lost-subs subs db env u)
