-- Each entry of a witness list stands at its place.
use Rattle.std.proofs.Common.{◌≡◌, ℕ, inl, inr, Bool, true, false, cond, ◌&&◌, List, [], ◌∷◌, ◌++◌, map, filter, length, Option, Some, None, IfSome, IsTrue, refl, sym, ap, ◌∙◌, subst, append_assoc, append-nil}
use Rattle.std.proofs.lemmas.List.{length-map}
use Rattle.std.specs.List.{flat_map}
use Rattle.perm_values.specs.Rows.{same_row, picked, value_at}
use Rattle.perm_values.specs.declared.key.Key.{Key}
use Rattle.perm_values.specs.declared.kind.Kind.{Kind}
use Rattle.perm_values.specs.declared.value.Value.{Value}
use Rattle.bag_algebra.proofs.Columns.{from-with_lists}
use Rattle.bag_algebra.proofs.Members.{IsIn, in-map, from-map, from-append, from-flat_map, in-member}
use Rattle.bag_algebra.specs.Bags.{Row, Bag, member, nulls}
use Rattle.bag_algebra.specs.Kinds.{shape, sub_shape, kinds_in, kind_in, kinds_of, width_of}
use Rattle.bag_algebra.specs.Meaning.{Database, denote, meaning, sub_denote, optional_value, condition_on, items_on, arguments_on}
use Rattle.bag_algebra.specs.Means.{Means, Held, Empty, Witness, Blanks, with_lists, paired, beside, good_rows, all_empty, base_means, filter_means, project_means, join_means, keeps_left, keeps_right, is_met, unmatched_left, unmatched_right, pair_lists, left_lists, right_lists, lists_under, apply_means, union_means, intersect_means, except_means, differing_lists, distinct_means, limit_means, unlisted_means, aggregate_means, class_lists, contribution_of, chosen, is_some_row, good_value}
use Rattle.bag_algebra.specs.Outcome.{Outcome, Good, Bad}
use Rattle.bag_algebra.specs.built.Patterns.{BaseOf, FilterOf, ProjectOf, JoinOf, ApplyOf, UnionOf, IntersectOf, ExceptOf, DistinctOf, AggregateOf, LimitOf, ProvOf}
use Rattle.bag_algebra.specs.declared.place.Place.{Place}
use Rattle.bag_algebra.specs.declared.query.AggFn.{AggFn}
use Rattle.bag_algebra.specs.declared.query.Aggr.{Aggr}
use Rattle.bag_algebra.specs.declared.query.JoinKind.{JoinKind}
use Rattle.bag_algebra.specs.declared.query.Label.{Label}
use Rattle.bag_algebra.specs.declared.query.SubKind.{SubKind}
use Rattle.bag_algebra.specs.declared.query.Query.{Query, Row_of-Sublink, more_of-Sublink, end_of-Sublink}
use Rattle.bag_algebra.specs.declared.query.Query.TheVariants.{Table, Single}
use Rattle.contribution.specs.HeldRows.{table_rows, input_rows, restricted, held_rows, sub_held_rows, StandAt}

abbrev pub Rows : Type 0
Rows = List (Option Bag)

-- the entries of a list stand at their places
pub record At (places : List Place) (rows : Rows) (w : Witness) : Type 0 where
  pub stand : StandAt places rows w

-- so do those of each list
pub record EachAt (places : List Place) (rows : Rows) (ws : List Witness) : Type 0 where
  pub each : (w : Witness) → IsIn w ws → At places rows w

-- so do those of each list of each row
pub record AllAt (places : List Place) (rows : Rows) (m : Means) : Type 0 where
  pub all : (t : Row) → EachAt places rows (m.lists t)

pub at-append : (ps qs : List Place) (rs ss : Rows) (v w : Witness) → At ps rs v → At qs ss w → At (ps ++ qs) (rs ++ ss) (v ++ w)
at-append [] qs [] ss [] w a b = b
at-append [] qs [] ss (e ∷ v) w a b = absurd a.stand
at-append [] qs (r ∷ rs) ss v w a b = absurd a.stand
at-append (p ∷ ps) qs [] ss v w a b = absurd a.stand
at-append (p ∷ ps) qs (r ∷ rs) ss [] w a b = absurd a.stand
at-append (p ∷ ps) qs (r ∷ rs) ss (e ∷ v) w a b =
    record { stand = (a.stand.0, (at-append ps qs rs ss v w (record { stand = a.stand.1 }) b).stand) }

-- ---- lists beside one another

pub each-none : (ps : List Place) (rs : Rows) → EachAt ps rs []
each-none ps rs = record { each = λ w h. absurd h }

pub each-one : (ps : List Place) (rs : Rows) (w : Witness) → At ps rs w → EachAt ps rs (w ∷ [])
each-one ps rs w a = record { each = λ v h. elim h [ inl e ↦ subst (At ps rs) e a | inr n ↦ absurd n ] }

pub each-append : (ps : List Place) (rs : Rows) (vs ws : List Witness) → EachAt ps rs vs → EachAt ps rs ws → EachAt ps rs (vs ++ ws)
each-append ps rs vs ws a b = record {
  each = λ w h. elim (from-append w vs ws h) [ inl l ↦ a.each w l | inr r ↦ b.each w r ];
}

pub each-if : (ps : List Place) (rs : Rows) (b : Bool) (ws : List Witness) → EachAt ps rs ws → EachAt ps rs (cond b ws [])
each-if ps rs true ws a = a
each-if ps rs false ws a = each-none ps rs

pub each-flat_map : {X : Type 0} (ps : List Place) (rs : Rows) (f : X → List Witness) (xs : List X) → ((x : X) → IsIn x xs → EachAt ps rs (f x)) → EachAt ps rs (flat_map f xs)
each-flat_map ps rs f xs a = record {
  each = λ w h. let found = from-flat_map f w xs h in (a found.0 found.1).each w found.2;
}

pub each-map : (ps qs : List Place) (rs ss : Rows) (f : Witness → Witness) (ws : List Witness) → EachAt ps rs ws → ((w : Witness) → At ps rs w → At qs ss (f w)) → EachAt qs ss (map f ws)
each-map ps qs rs ss f ws a step = record {
  each = λ w h. let found = from-map f w ws h in subst (At qs ss) found.2 (step found.0 (a.each found.0 found.1));
}

pub each-paired : (ps qs : List Place) (rs ss : Rows) (vs ws : List Witness) → EachAt ps rs vs → EachAt qs ss ws → EachAt (ps ++ qs) (rs ++ ss) (paired vs ws)
each-paired ps qs rs ss vs ws a b =
    each-flat_map (ps ++ qs) (rs ++ ss) (λ v. map (λ w. v ++ w) ws) vs (λ v h.
    each-map qs (ps ++ qs) ss (rs ++ ss) (λ w. v ++ w) ws b (λ w. at-append ps qs rs ss v w (a.each v h)))

-- the contributions of sublinks, one after another
pub data ContributionsAt : List (List Witness) → List Place → Rows → Type 0 where
  no_more : ContributionsAt [] [] []
  first : {ws : List Witness} {more : List (List Witness)} (ps qs : List Place) (rs ss : Rows) →
      EachAt ps rs ws → ContributionsAt more qs ss → ContributionsAt (ws ∷ more) (ps ++ qs) (rs ++ ss)

along : (ps qs : List Place) (rs ss : Rows) (ws : List Witness) → ps ≡ qs → rs ≡ ss → EachAt ps rs ws → EachAt qs ss ws
along ps qs rs ss ws e f a = subst (λ rs. EachAt qs rs ws) f (subst (λ ps. EachAt ps rs ws) e a)

pub each-beside : (ps qs : List Place) (rs ss : Rows) (ws : List Witness) (contributions : List (List Witness)) →
    EachAt ps rs ws → ContributionsAt contributions qs ss → EachAt (ps ++ qs) (rs ++ ss) (beside ws contributions)
each-beside ps qs rs ss ws contributions a no_more = along ps (ps ++ []) rs (rs ++ []) ws (sym (append-nil ps)) (sym (append-nil rs)) a
each-beside ps qs rs ss ws contributions a (first {ws = vs} {more = more} ps' qs' rs' ss' b c) =
    along (ps ++ ps' ++ qs') (ps ++ (ps' ++ qs')) (rs ++ rs' ++ ss') (rs ++ (rs' ++ ss')) (beside (paired ws vs) more)
    (append_assoc ps ps' qs') (append_assoc rs rs' ss')
    (each-beside (ps ++ ps') qs' (rs ++ rs') ss' (paired ws vs) more (each-paired ps ps' rs rs' ws vs a b) c)

pub from-lists : (rows : Outcome Bag) (lists : Row → List Witness) (t : Row) (w : Witness) → IsIn w ((with_lists rows lists).lists t) → IsIn t (good_rows rows) × IsIn w (lists t)
from-lists (Good bag) lists t w h = from-with_lists bag lists t w h
from-lists (Bad faults) lists t w h = absurd h

pub all-with_lists : (ps : List Place) (rs : Rows) (rows : Outcome Bag) (lists : Row → List Witness) → ((t : Row) → IsIn t (good_rows rows) → EachAt ps rs (lists t)) → AllAt ps rs (with_lists rows lists)
all-with_lists ps rs rows lists a = record {
  all = λ t. record { each = λ w h. let from = from-lists rows lists t w h in (a t from.0).each w from.1 };
}

-- ---- each node

pub all-unlisted : (rows : Outcome Bag) → AllAt [] [] (unlisted_means rows)
all-unlisted rows = all-with_lists [] [] rows _ (λ t h. each-one [] [] [] (record { stand = tt }))

pub all-filter : (ps qs : List Place) (rs ss : Rows) (condition : Row → Outcome Value) (contributions : Row → List (List Witness)) (m : Means) →
    AllAt ps rs m → ((u : Row) → ContributionsAt (contributions u) qs ss) → AllAt (ps ++ qs) (rs ++ ss) (filter_means condition contributions m)
all-filter ps qs rs ss condition contributions m a c = all-with_lists (ps ++ qs) (rs ++ ss) _ _ (λ t h.
    each-beside ps qs rs ss (m.lists t) (contributions t) (a.all t) (c t))

pub all-project : (ps qs : List Place) (rs ss : Rows) (items : Row → Outcome Row) (contributions : Row → List (List Witness)) (m : Means) →
    AllAt ps rs m → ((u : Row) → ContributionsAt (contributions u) qs ss) → AllAt (ps ++ qs) (rs ++ ss) (project_means items contributions m)
all-project ps qs rs ss items contributions m a c = all-with_lists (ps ++ qs) (rs ++ ss) _ _ (λ t h.
    each-flat_map (ps ++ qs) (rs ++ ss) _ _ (λ u g. each-beside ps qs rs ss (m.lists u) (contributions u) (a.all u) (c u)))

-- the blank of places
abbrev pub Blank : List Place → Rows → Type 0
Blank ps rs = At ps rs (all_empty ps)

pub all_empty-append : (ps qs : List Place) → all_empty (ps ++ qs) ≡ all_empty ps ++ all_empty qs
all_empty-append [] qs = refl
all_empty-append (p ∷ ps) qs = ap (λ w. Empty (length p.kinds) ∷ w) (all_empty-append ps qs)

pub blank-append : (ps qs : List Place) (rs ss : Rows) → Blank ps rs → Blank qs ss → Blank (ps ++ qs) (rs ++ ss)
blank-append ps qs rs ss a b = subst (At (ps ++ qs) (rs ++ ss)) (sym (all_empty-append ps qs)) (at-append ps qs rs ss (all_empty ps) (all_empty qs) a b)

module _ (ps qs : List Place) (rs ss : Rows) where
  pub all-union : (all : Bool) (l r : Means) → Blank ps rs → Blank qs ss → AllAt ps rs l → AllAt qs ss r →
      AllAt (ps ++ qs) (rs ++ ss) (union_means all (all_empty ps) (all_empty qs) l r)
  all-union all l r left_blank right_blank a b = all-with_lists (ps ++ qs) (rs ++ ss) _ _ (λ t h.
      each-append (ps ++ qs) (rs ++ ss) _ _
      (each-map ps (ps ++ qs) rs (rs ++ ss) (λ w. w ++ all_empty qs) (l.lists t) (a.all t) (λ w at_left. at-append ps qs rs ss w (all_empty qs) at_left right_blank))
      (each-map qs (ps ++ qs) ss (rs ++ ss) (λ w. all_empty ps ++ w) (r.lists t) (b.all t) (λ w at_right. at-append ps qs rs ss (all_empty ps) w left_blank at_right)))

  each-under : (kind : JoinKind) (width : ℕ) (ws : List Witness) (lists : Row → List Witness) (t u : Row) (vs : Bag) → Blank qs ss → EachAt ps rs ws →
      ((v : Row) → EachAt qs ss (lists v)) → EachAt (ps ++ qs) (rs ++ ss) (lists_under kind width (all_empty qs) ws lists t u vs)
  each-under kind width ws lists t u [] blank a b =
      each-if (ps ++ qs) (rs ++ ss) (keeps_left kind && same_row (u ++ nulls width) t) (map (λ w. w ++ all_empty qs) ws)
      (each-map ps (ps ++ qs) rs (rs ++ ss) (λ w. w ++ all_empty qs) ws a (λ w at_left. at-append ps qs rs ss w (all_empty qs) at_left blank))
  each-under kind width ws lists t u (v ∷ vs) blank a b =
      each-flat_map (ps ++ qs) (rs ++ ss) (λ x. cond (same_row (u ++ x) t) (paired ws (lists x)) []) (v ∷ vs) (λ x h.
      each-if (ps ++ qs) (rs ++ ss) (same_row (u ++ x) t) (paired ws (lists x)) (each-paired ps qs rs ss ws (lists x) a (b x)))

  pub all-apply : (kind : JoinKind) (width : ℕ) (l : Means) (r : Row → Means) → Blank qs ss → AllAt ps rs l → ((u : Row) → AllAt qs ss (r u)) →
      AllAt (ps ++ qs) (rs ++ ss) (apply_means kind width (all_empty qs) l r)
  all-apply kind width l r blank a b = all-with_lists (ps ++ qs) (rs ++ ss) _ _ (λ t h.
      each-flat_map (ps ++ qs) (rs ++ ss) (λ u. lists_under kind width (all_empty qs) (l.lists u) (r u).lists t u (good_rows (r u).rows)) (good_rows l.rows) (λ u g.
      each-under kind width (l.lists u) (r u).lists t u (good_rows (r u).rows) blank (a.all u) (b u).all))

  pub all-intersect : (all : Bool) (l r : Means) → AllAt ps rs l → AllAt qs ss r → AllAt (ps ++ qs) (rs ++ ss) (intersect_means all l r)
  all-intersect all l r a b = all-with_lists (ps ++ qs) (rs ++ ss) _ _ (λ t h. each-paired ps qs rs ss (l.lists t) (r.lists t) (a.all t) (b.all t))

  each-or_blank : (b : Bool) (ws : List Witness) (blank : Witness) → EachAt qs ss ws → At qs ss blank → EachAt qs ss (cond b ws (blank ∷ []))
  each-or_blank true ws blank a at_blank = a
  each-or_blank false ws blank a at_blank = each-one qs ss blank at_blank

  pub all-except : (all : Bool) (l r : Means) → Blank qs ss → AllAt ps rs l → AllAt qs ss r → AllAt (ps ++ qs) (rs ++ ss) (except_means all (all_empty qs) l r)
  all-except all l r blank a b = all-with_lists (ps ++ qs) (rs ++ ss) _ _ (λ t h.
      each-paired ps qs rs ss (l.lists t) (differing_lists (all_empty qs) r t) (a.all t)
      (each-or_blank _ _ (all_empty qs) (each-flat_map qs ss r.lists _ (λ v g. b.all v)) blank))

pub all-distinct : (ps : List Place) (rs : Rows) (m : Means) → AllAt ps rs m → AllAt ps rs (distinct_means m)
all-distinct ps rs m a = all-with_lists ps rs _ _ (λ t h. a.all t)

pub all-limit : (ps : List Place) (rs : Rows) (keys : List Key) (count : ℕ) (m : Means) → AllAt ps rs m → AllAt ps rs (limit_means keys count m)
all-limit ps rs keys count m a = all-with_lists ps rs _ _ (λ t h. a.all t)

each-class : (ps : List Place) (rs : Rows) (groups : List ℕ) (m : Means) (us : Bag) (t : Row) → Blank ps rs → AllAt ps rs m → EachAt ps rs (class_lists groups (all_empty ps) m us t)
each-class ps rs groups m [] t blank a = each-one ps rs (all_empty ps) blank
each-class ps rs groups m (u ∷ us) t blank a = each-flat_map ps rs m.lists _ (λ v g. a.all v)

pub all-aggregate : (ps : List Place) (rs : Rows) (groups : List ℕ) (functions : List AggFn) (arguments : Row → Outcome Row) (m : Means) →
    Blank ps rs → AllAt ps rs m → AllAt ps rs (aggregate_means groups functions arguments (all_empty ps) m)
all-aggregate ps rs groups functions arguments m blank a = all-with_lists ps rs _ _ (λ t h. each-class ps rs groups m (good_rows m.rows) t blank a)

module _ (ps qs ts : List Place) (rs ss us : Rows) where
  abbrev places : List Place
  places = ps ++ qs ++ ts

  abbrev rows : Rows
  rows = rs ++ ss ++ us

  three : (v w x : Witness) → At ps rs v → At qs ss w → At ts us x → At places rows (v ++ w ++ x)
  three v w x a b c = at-append (ps ++ qs) ts (rs ++ ss) us (v ++ w) x (at-append ps qs rs ss v w a b) c

  module _ (kind : JoinKind) (condition : Row → Outcome Value) (contributions : Row → List (List Witness)) (subs : Witness) (left_width right_width : ℕ) (l r : Means)
      (left_blank : Blank ps rs) (right_blank : Blank qs ss) (subs_blank : At ts us subs)
      (a : AllAt ps rs l) (b : AllAt qs ss r) (c : (u : Row) → ContributionsAt (contributions u) ts us) where
    abbrev blanks : Blanks
    blanks = record { left = all_empty ps; right = all_empty qs; subs = subs }

    each-pair_lists : (lefts rights : Bag) (t : Row) → EachAt places rows (pair_lists condition contributions l r lefts rights t)
    each-pair_lists lefts rights t =
        let of_pair : Row → Row → List Witness = λ u v. beside (paired (l.lists u) (r.lists v)) (contributions (u ++ v)) in
        let listed : Row → Row → List Witness = λ u v. cond (same_row (u ++ v) t && is_met (condition (u ++ v))) (of_pair u v) [] in
        each-flat_map places rows (λ u. flat_map (listed u) rights) lefts (λ u g. each-flat_map places rows (listed u) rights (λ v h.
        each-if places rows (same_row (u ++ v) t && is_met (condition (u ++ v))) (of_pair u v)
        (each-beside (ps ++ qs) ts (rs ++ ss) us (paired (l.lists u) (r.lists v)) (contributions (u ++ v))
        (each-paired ps qs rs ss (l.lists u) (r.lists v) (a.all u) (b.all v)) (c (u ++ v)))))

    each-left_lists : (lefts rights : Bag) (t : Row) → EachAt places rows (left_lists condition l blanks right_width lefts rights t)
    each-left_lists lefts rights t =
        each-flat_map places rows (λ u. map (λ w. w ++ all_empty qs ++ subs) (l.lists u))
        (filter (λ u. same_row (u ++ nulls right_width) t) (unmatched_left condition lefts rights)) (λ u g.
        each-map ps places rs rows (λ w. w ++ all_empty qs ++ subs) (l.lists u) (a.all u)
        (λ w at_left. three w (all_empty qs) subs at_left right_blank subs_blank))

    each-right_lists : (lefts rights : Bag) (t : Row) → EachAt places rows (right_lists condition r blanks left_width lefts rights t)
    each-right_lists lefts rights t =
        each-flat_map places rows (λ v. map (λ w. all_empty ps ++ w ++ subs) (r.lists v))
        (filter (λ v. same_row (nulls left_width ++ v) t) (unmatched_right condition lefts rights)) (λ v g.
        each-map qs places ss rows (λ w. all_empty ps ++ w ++ subs) (r.lists v) (b.all v)
        (λ w at_right. three (all_empty ps) w subs left_blank at_right subs_blank))

    pub all-join : AllAt places rows (join_means kind condition contributions blanks left_width right_width l r)
    all-join = all-with_lists places rows _ _ (λ t h.
        let lefts = good_rows l.rows in
        let rights = good_rows r.rows in
        let from_pairs = pair_lists condition contributions l r lefts rights t in
        let from_left = cond (keeps_left kind) (left_lists condition l blanks right_width lefts rights t) [] in
        let from_right = cond (keeps_right kind) (right_lists condition r blanks left_width lefts rights t) [] in
        each-append places rows (from_pairs ++ from_left) from_right
        (each-append places rows from_pairs from_left (each-pair_lists lefts rights t) (each-if places rows (keeps_left kind) _ (each-left_lists lefts rights t)))
        (each-if places rows (keeps_right kind) _ (each-right_lists lefts rights t)))

-- what a sublink contributes on a row
pub each-contribution : (ps : List Place) (rs : Rows) (kind : SubKind) (x : Value) (m : Means) → Blank ps rs → AllAt ps rs m → EachAt ps rs (contribution_of (all_empty ps) kind x m)
each-contribution ps rs kind x m blank a = by_rows (is_some_row (good_rows m.rows)) where
  by_rows : (b : Bool) → EachAt ps rs (cond b (flat_map m.lists (chosen kind x (good_rows m.rows))) (all_empty ps ∷ []))
  by_rows true = each-flat_map ps rs m.lists _ (λ v g. a.all v)
  by_rows false = each-one ps rs (all_empty ps) blank

-- ---- sources

same_width : (kinds : List Kind) (columns : List ℕ) (row : Row) → length (picked columns row) ≡ length (kinds_in kinds columns)
same_width kinds columns row = length-map columns (value_at row) ∙ sym (length-map columns (kind_in kinds))

-- where something is said of the rows of a source's input, they are those that it means
pub record Tells (rows : Option Bag) (m : Means) : Type 0 where
  pub told : IfSome rows (λ bag. good_rows m.rows ≡ bag)

restricted-told : (columns : List ℕ) (t : Row) (told : Option Bag) (m : Means) → Tells told m → IsIn t (good_rows m.rows) →
    IfSome (restricted columns told) (λ bag. IsTrue (member (picked columns t) bag))
restricted-told columns t None m tells h = tt
restricted-told columns t (Some bag) m tells h =
    in-member (picked columns t) (map (picked columns) bag) (in-map (picked columns) t bag (subst (IsIn t) tells.told h))

pub all-base : (columns : List ℕ) (label : Label) (kinds : List Kind) (told : Option Bag) (m : Means) → Tells told m →
    AllAt (record { label = label; kinds = kinds_in kinds columns } ∷ []) (restricted columns told ∷ []) (base_means columns m)
all-base columns label kinds told m tells = all-with_lists _ _ _ _ (λ t h.
    each-one _ _ (Held (picked columns t) ∷ []) (record { stand = ((same_width kinds columns t, restricted-told columns t told m tells h), tt) }))

pub blank-base : (columns : List ℕ) (label : Label) (kinds : List Kind) (told : Option Bag) → Blank (record { label = label; kinds = kinds_in kinds columns } ∷ []) (told ∷ [])
blank-base columns label kinds told = record { stand = (refl, tt) }

-- ---- all queries

pub tells-table : (input : Query) (db : Database) (env : List Row) → Tells (table_rows input db) (denote input db env)
tells-table (Table id kinds) db env = record { told = refl }
tells-table other db env = record { told = tt }

-- outer rows that are told are those that there are
pub record TellsOuter (told : Option (List Row)) (env : List Row) : Type 0 where
  pub same : IfSome told (λ rows. rows ≡ env)

pub tells-input : (input : Query) (db : Database) (told : Option (List Row)) (env : List Row) → TellsOuter told env → Tells (input_rows input db told) (denote input db env)
tells-input input db None env t = tells-table input db env
tells-input input db (Some outer) env t = record { told = ap (λ e. good_rows (meaning input db e)) (sym t.same) }

no_blank : Blank [] []
no_blank = record { stand = tt }

mutual
  pub blank-at : (q : Query) (db : Database) (told : Option (List Row)) → Blank (shape q) (held_rows q db told)
  blank-at (Table id kinds) db told = no_blank
  blank-at Single db told = no_blank
  blank-at (BaseOf input places label) db told = blank-base places label (kinds_of input) (restricted places (input_rows input db told))
  blank-at (FilterOf input condition _ subs) db told =
      blank-append (shape input) (sub_shape subs) (held_rows input db told) (sub_held_rows subs db) (blank-at input db told) (blank-subs subs db)
  blank-at (ProjectOf input items _ subs) db told =
      blank-append (shape input) (sub_shape subs) (held_rows input db told) (sub_held_rows subs db) (blank-at input db told) (blank-subs subs db)
  blank-at (JoinOf kind left right condition _ subs) db told =
      blank-append (shape left ++ shape right) (sub_shape subs) (held_rows left db told ++ held_rows right db told) (sub_held_rows subs db)
      (blank-append (shape left) (shape right) (held_rows left db told) (held_rows right db told) (blank-at left db told) (blank-at right db told)) (blank-subs subs db)
  blank-at (ApplyOf kind left right) db told =
      blank-append (shape left) (shape right) (held_rows left db told) (held_rows right db None) (blank-at left db told) (blank-at right db None)
  blank-at (UnionOf all left right) db told =
      blank-append (shape left) (shape right) (held_rows left db told) (held_rows right db told) (blank-at left db told) (blank-at right db told)
  blank-at (IntersectOf all left right) db told =
      blank-append (shape left) (shape right) (held_rows left db told) (held_rows right db told) (blank-at left db told) (blank-at right db told)
  blank-at (ExceptOf all left right) db told =
      blank-append (shape left) (shape right) (held_rows left db told) (held_rows right db told) (blank-at left db told) (blank-at right db told)
  blank-at (DistinctOf input) db told = blank-at input db told
  blank-at (AggregateOf input groups aggregates) db told = blank-at input db told
  blank-at (LimitOf input keys count) db told = blank-at input db told
  blank-at (ProvOf input) db told = no_blank

  pub blank-subs : {m : _} (subs : Row_of-Sublink m) (db : Database) → Blank (sub_shape subs) (sub_held_rows subs db)
  blank-subs end_of-Sublink db = no_blank
  blank-subs (more_of-Sublink kind tested query subs) db =
      blank-append (shape query) (sub_shape subs) (held_rows query db None) (sub_held_rows subs db) (blank-at query db None) (blank-subs subs db)

-- the sublinks' own blank is that of their places
pub blank-of_subs : {m : _} (subs : Row_of-Sublink m) (db : Database) (env : List Row) → (sub_denote subs db env).blank ≡ all_empty (sub_shape subs)
blank-of_subs end_of-Sublink db env = refl
blank-of_subs (more_of-Sublink kind tested query subs) db env =
    ap (λ w. all_empty (shape query) ++ w) (blank-of_subs subs db env) ∙ sym (all_empty-append (shape query) (sub_shape subs))

mutual
  pub all-at : (q : Query) (db : Database) (told : Option (List Row)) (env : List Row) → TellsOuter told env → AllAt (shape q) (held_rows q db told) (denote q db env)
  all-at (Table id kinds) db told env t = all-unlisted (Good (db id))
  all-at Single db told env t = all-unlisted (Good ([] ∷ []))
  all-at (BaseOf input places label) db told env t =
      all-base places label (kinds_of input) (input_rows input db told) (denote input db env) (tells-input input db told env t)
  all-at (FilterOf input condition _ subs) db told env t =
      let s = sub_denote subs db env in
      all-filter (shape input) (sub_shape subs) (held_rows input db told) (sub_held_rows subs db) (condition_on condition env s) s.contributions (denote input db env)
      (all-at input db told env t) (contributions-at subs db env)
  all-at (ProjectOf input items _ subs) db told env t =
      let s = sub_denote subs db env in
      all-project (shape input) (sub_shape subs) (held_rows input db told) (sub_held_rows subs db) (items_on items env s) s.contributions (denote input db env)
      (all-at input db told env t) (contributions-at subs db env)
  all-at (JoinOf kind left right condition _ subs) db told env t =
      let s = sub_denote subs db env in
      all-join (shape left) (shape right) (sub_shape subs) (held_rows left db told) (held_rows right db told) (sub_held_rows subs db)
      kind (condition_on condition env s) s.contributions s.blank (width_of left) (width_of right) (denote left db env) (denote right db env)
      (blank-at left db told) (blank-at right db told) (subst (At (sub_shape subs) (sub_held_rows subs db)) (sym (blank-of_subs subs db env)) (blank-subs subs db))
      (all-at left db told env t) (all-at right db told env t) (contributions-at subs db env)
  all-at (ApplyOf kind left right) db told env t =
      all-apply (shape left) (shape right) (held_rows left db told) (held_rows right db None) kind (width_of right) (denote left db env) (λ u. denote right db (u ∷ env))
      (blank-at right db None) (all-at left db told env t) (λ u. all-at right db None (u ∷ env) (record { same = tt }))
  all-at (UnionOf all left right) db told env t =
      all-union (shape left) (shape right) (held_rows left db told) (held_rows right db told) all (denote left db env) (denote right db env)
      (blank-at left db told) (blank-at right db told) (all-at left db told env t) (all-at right db told env t)
  all-at (IntersectOf all left right) db told env t =
      all-intersect (shape left) (shape right) (held_rows left db told) (held_rows right db told) all (denote left db env) (denote right db env)
      (all-at left db told env t) (all-at right db told env t)
  all-at (ExceptOf all left right) db told env t =
      all-except (shape left) (shape right) (held_rows left db told) (held_rows right db told) all (denote left db env) (denote right db env)
      (blank-at right db told) (all-at left db told env t) (all-at right db told env t)
  all-at (DistinctOf input) db told env t = all-distinct (shape input) (held_rows input db told) (denote input db env) (all-at input db told env t)
  all-at (AggregateOf input groups aggregates) db told env t =
      all-aggregate (shape input) (held_rows input db told) groups (map (λ (aggregate : Aggr). aggregate.function) aggregates) (arguments_on aggregates env) (denote input db env)
      (blank-at input db told) (all-at input db told env t)
  all-at (LimitOf input keys count) db told env t = all-limit (shape input) (held_rows input db told) keys count (denote input db env) (all-at input db told env t)
  all-at (ProvOf input) db told env t = all-unlisted _

  pub contributions-at : {m : _} (subs : Row_of-Sublink m) (db : Database) (env : List Row) (u : Row) →
      ContributionsAt ((sub_denote subs db env).contributions u) (sub_shape subs) (sub_held_rows subs db)
  contributions-at end_of-Sublink db env u = no_more
  contributions-at (more_of-Sublink kind tested query subs) db env u =
      first (shape query) (sub_shape subs) (held_rows query db None) (sub_held_rows subs db)
      (each-contribution (shape query) (held_rows query db None) kind (good_value (optional_value tested env u)) (denote query db (u ∷ env))
      (blank-at query db None) (all-at query db None (u ∷ env) (record { same = tt })))
      (contributions-at subs db env u)
