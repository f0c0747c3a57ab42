-- What a node makes of what its inputs mean: the rows, and for each row its witness lists
-- (Glavic and Alonso, ICDE 2009, 'contribution semantics', and EDBT 2009 for sublinks; EXCEPT, comparisons that are
-- unknown, and that faults count are this project's own).
use Rattle.std.specs.Prelude.{ℕ, suc, ℤ, pos, ◌+ℤ◌, Bool, true, false, cond, not, ◌&&◌, List, [], ◌∷◌, ◌++◌, map, filter, take, length}
use Rattle.std.specs.List.{list_any, flat_map}
use Rattle.std.specs.Ordering.{ordering_reverse}
use Rattle.null_logic.specs.Arithmetic.{fits_64}
use Rattle.null_logic.specs.Comparison.{compare_values}
use Rattle.null_logic.specs.Logic.{is_true, truth_of, truth_not, value_of}
use Rattle.null_logic.specs.declared.compare.Compare.{Compare}
use Rattle.null_logic.specs.declared.run_fault.RunFault.TheVariants.{OutOfRange, SeveralRows}
use Rattle.null_logic.specs.declared.truth.Truth.{Truth}
use Rattle.null_logic.specs.declared.truth.Truth.TheVariants.{True, False, Unknown}
use Rattle.perm_values.specs.Rows.{same_row, value_at, picked, printed_cmp}
use Rattle.perm_values.specs.Values.{same_value, value_cmp, is_null}
use Rattle.perm_values.specs.declared.key.Key.{Key}
use Rattle.perm_values.specs.declared.value.Value.{Value}
use Rattle.perm_values.specs.declared.value.Value.TheVariants.{Null, Integer, Text, Boolean}
use Rattle.bag_algebra.specs.Bags.{Row, Bag, member, once, union_of, intersect_of, except_of, sorted, nulls}
use Rattle.bag_algebra.specs.Outcome.{Outcome, Good, Bad, and_then, mapped, both, both_then, gather, each, only}
use Rattle.bag_algebra.specs.declared.place.Place.{Place}
use Rattle.bag_algebra.specs.declared.query.AggFn.{AggFn}
use Rattle.bag_algebra.specs.declared.query.AggFn.TheVariants.{CountRows, Count, CountDistinct, Sum, Min, Max}
use Rattle.bag_algebra.specs.declared.query.JoinKind.{JoinKind}
use Rattle.bag_algebra.specs.declared.query.JoinKind.TheVariants.{Inner, Left, Right, Full}
use Rattle.bag_algebra.specs.declared.query.SubKind.{SubKind}
use Rattle.bag_algebra.specs.declared.query.SubKind.TheVariants.{Exists, Any, All, Scalar}

-- an entry of a witness list: a row of the source at its place, or nothing of that many columns
pub data Entry : Type 0 where
  Held : Row → Entry
  Empty : ℕ → Entry

abbrev pub Witness : Type 0
Witness = List Entry

-- the values of the entries in order, NULLs for an empty one
abbrev pub flat : Witness → Row
flat [] = []
flat (Held row ∷ entries) = row ++ flat entries
flat (Empty width ∷ entries) = nulls width ++ flat entries

-- nothing at every place
abbrev pub all_empty : List Place → Witness
all_empty [] = []
all_empty (place ∷ places) = Empty (length place.kinds) ∷ all_empty places

-- what a query means: its rows, or the faults that it meets; and the witness lists of each row
pub record Means : Type 0 where
  pub rows : Outcome Bag
  pub lists : Row → List Witness

-- no list where the query is bad or the row isn't in it
abbrev pub with_lists : Outcome Bag → (Row → List Witness) → Means
with_lists (Good bag) lists = record { rows = Good bag; lists = λ t. cond (member t bag) (lists t) [] }
with_lists (Bad faults) lists = record { rows = Bad faults; lists = λ t. [] }

-- ---- witness lists beside one another

-- each list of the left followed by each of the right
abbrev pub paired : List Witness → List Witness → List Witness
paired vs ws = flat_map (λ v. map (λ w. v ++ w) ws) vs

-- each list, followed by one contribution of each sublink
abbrev pub beside : List Witness → List (List Witness) → List Witness
beside ws [] = ws
beside ws (contributions ∷ more) = beside (paired ws contributions) more

-- ---- sources

-- the one list without entries
abbrev pub unlisted_means : Outcome Bag → Means
unlisted_means rows = with_lists rows (λ t. [] ∷ [])

-- the one list that holds the row, restricted to the source's places
abbrev pub base_means : List ℕ → Means → Means
base_means places m = with_lists m.rows (λ t. (Held (picked places t) ∷ []) ∷ [])

-- ---- Filter and Project

abbrev pub holds_of : Value → Bool
holds_of v = is_true (truth_of v)

-- the row where the condition is true of it
abbrev pub kept : (Row → Outcome Value) → Row → Outcome Bag
kept condition u = mapped (λ v. cond (holds_of v) (u ∷ []) []) (condition u)

-- each row whose condition is true; each list of it in the input, beside one contribution of each sublink
abbrev pub filter_means : (Row → Outcome Value) → (Row → List (List Witness)) → Means → Means
filter_means condition contributions m =
    with_lists (and_then m.rows (gather (kept condition))) (λ t. beside (m.lists t) (contributions t))

-- whether the items give t on the row
abbrev pub gives : Row → Outcome Row → Bool
gives t (Good row) = same_row row t
gives t (Bad faults) = false

-- the rows of a good bag
abbrev pub good_rows : Outcome Bag → Bag
good_rows (Good bag) = bag
good_rows (Bad faults) = []

-- what the items give on each row; the lists of all input rows that give it, beside the contributions
abbrev pub project_means : (Row → Outcome Row) → (Row → List (List Witness)) → Means → Means
project_means items contributions m =
    with_lists (and_then m.rows (each items))
    (λ t. flat_map (λ u. beside (m.lists u) (contributions u)) (filter (λ u. gives t (items u)) (good_rows m.rows)))

-- ---- joins

abbrev pub keeps_left : JoinKind → Bool
keeps_left Inner = false
keeps_left Left = true
keeps_left Right = false
keeps_left Full = true

abbrev pub keeps_right : JoinKind → Bool
keeps_right Inner = false
keeps_right Left = false
keeps_right Right = true
keeps_right Full = true

abbrev pub is_met : Outcome Value → Bool
is_met (Good v) = holds_of v
is_met (Bad faults) = false

-- the left rows that meet no right row, and the right rows that meet no left row
abbrev pub unmatched_left : (Row → Outcome Value) → Bag → Bag → Bag
unmatched_left condition us vs = filter (λ u. not (list_any (λ v. is_met (condition (u ++ v))) vs)) us

abbrev pub unmatched_right : (Row → Outcome Value) → Bag → Bag → Bag
unmatched_right condition us vs = filter (λ v. not (list_any (λ u. is_met (condition (u ++ v))) us)) vs

-- the pairs that meet the condition, which is evaluated on every pair
abbrev pub met_pairs : (Row → Outcome Value) → Bag → Bag → Outcome Bag
met_pairs condition us vs = gather (λ u. gather (λ v. kept condition (u ++ v)) vs) us

abbrev pub joined_rows : JoinKind → (Row → Outcome Value) → ℕ → ℕ → Bag → Bag → Outcome Bag
joined_rows kind condition left_width right_width us vs =
    mapped (λ pairs. pairs
    ++ cond (keeps_left kind) (map (λ u. u ++ nulls right_width) (unmatched_left condition us vs)) []
    ++ cond (keeps_right kind) (map (λ v. nulls left_width ++ v) (unmatched_right condition us vs)) [])
    (met_pairs condition us vs)

-- what the other side and the sublinks contribute to an unmatched row
pub record Blanks : Type 0 where
  pub left : Witness
  pub right : Witness
  pub subs : Witness

-- the lists of t from the pairs that make it
abbrev pub pair_lists : (Row → Outcome Value) → (Row → List (List Witness)) → Means → Means → Bag → Bag → Row → List Witness
pair_lists condition contributions l r us vs t =
    flat_map (λ u. flat_map (λ v. cond (same_row (u ++ v) t && is_met (condition (u ++ v)))
    (beside (paired (l.lists u) (r.lists v)) (contributions (u ++ v))) []) vs) us

abbrev pub left_lists : (Row → Outcome Value) → Means → Blanks → ℕ → Bag → Bag → Row → List Witness
left_lists condition l blanks right_width us vs t =
    flat_map (λ u. map (λ w. w ++ blanks.right ++ blanks.subs) (l.lists u))
    (filter (λ u. same_row (u ++ nulls right_width) t) (unmatched_left condition us vs))

abbrev pub right_lists : (Row → Outcome Value) → Means → Blanks → ℕ → Bag → Bag → Row → List Witness
right_lists condition r blanks left_width us vs t =
    flat_map (λ v. map (λ w. blanks.left ++ w ++ blanks.subs) (r.lists v))
    (filter (λ v. same_row (nulls left_width ++ v) t) (unmatched_right condition us vs))

-- each pair that meets the condition, and each unmatched row of a kept side beside NULLs; a pair has each list of the
-- left beside each of the right, an unmatched row the other side all empty
abbrev pub join_means : JoinKind → (Row → Outcome Value) → (Row → List (List Witness)) → Blanks → ℕ → ℕ → Means → Means → Means
join_means kind condition contributions blanks left_width right_width l r =
    let us = good_rows l.rows in
    let vs = good_rows r.rows in
    with_lists (both_then l.rows r.rows (joined_rows kind condition left_width right_width))
    (λ t. pair_lists condition contributions l r us vs t
    ++ cond (keeps_left kind) (left_lists condition l blanks right_width us vs t) []
    ++ cond (keeps_right kind) (right_lists condition r blanks left_width us vs t) [])

-- ---- dependent joins

-- what stands beside a left row: each right row; or NULLs where there is none and the kind keeps left rows
abbrev pub under : JoinKind → ℕ → Row → Bag → Bag
under kind width u [] = cond (keeps_left kind) ((u ++ nulls width) ∷ []) []
under kind width u (v ∷ vs) = map (λ w. u ++ w) (v ∷ vs)

-- the lists of t from a left row with these lists, over what the right side means under it and has for rows
abbrev pub lists_under : JoinKind → ℕ → Witness → List Witness → (Row → List Witness) → Row → Row → Bag → List Witness
lists_under kind width blank ws lists t u [] =
    cond (keeps_left kind && same_row (u ++ nulls width) t) (map (λ w. w ++ blank) ws) []
lists_under kind width blank ws lists t u (v ∷ vs) = flat_map (λ x. cond (same_row (u ++ x) t) (paired ws (lists x)) []) (v ∷ vs)

-- each left row beside each row of the right side, which sees it as its nearest outer row; each list of the left row beside
-- each of the right row, and beside NULLs the right side all empty
abbrev pub apply_means : JoinKind → ℕ → Witness → Means → (Row → Means) → Means
apply_means kind width blank l r =
    with_lists (and_then l.rows (gather (λ u. mapped (under kind width u) (r u).rows)))
    (λ t. flat_map (λ u. lists_under kind width blank (l.lists u) (r u).lists t u (good_rows (r u).rows)) (good_rows l.rows))

-- ---- set operations

-- left lists with the right all empty, and right lists with the left all empty
abbrev pub union_means : Bool → Witness → Witness → Means → Means → Means
union_means all left_blank right_blank l r =
    with_lists (both (union_of all) l.rows r.rows)
    (λ t. map (λ w. w ++ right_blank) (l.lists t) ++ map (λ w. left_blank ++ w) (r.lists t))

-- each left list beside each right list
abbrev pub intersect_means : Bool → Means → Means → Means
intersect_means all l r =
    with_lists (both (intersect_of all) l.rows r.rows) (λ t. paired (l.lists t) (r.lists t))

-- the lists of the right rows that differ from t, or the all-empty list where there is none
abbrev pub differing_lists : Witness → Means → Row → List Witness
differing_lists blank r t =
    let others = filter (λ v. not (same_row v t)) (good_rows r.rows) in
    cond (list_any (λ v. true) others) (flat_map r.lists others) (blank ∷ [])

-- each left list beside each list of each right row that differs
abbrev pub except_means : Bool → Witness → Means → Means → Means
except_means all right_blank l r =
    with_lists (both (except_of all) l.rows r.rows)
    (λ t. paired (l.lists t) (differing_lists right_blank r t))

-- ---- Distinct and Limit keep their input's lists

abbrev pub distinct_means : Means → Means
distinct_means m = with_lists (mapped once m.rows) m.lists

abbrev pub limit_means : List Key → ℕ → Means → Means
limit_means keys count m = with_lists (mapped (λ bag. take count (sorted (printed_cmp keys) bag)) m.rows) m.lists

-- ---- grouping

abbrev pub present : List Value → List Value
present vs = filter (λ v. not (is_null v)) vs

-- each value once
abbrev pub once_each : List Value → List Value
once_each [] = []
once_each (v ∷ vs) = v ∷ filter (λ w. not (same_value v w)) (once_each vs)

abbrev pub number_of : Value → ℤ
number_of (Integer a) = a
number_of Null = pos 0
number_of (Text a) = pos 0
number_of (Boolean a) = pos 0

-- the exact sum
abbrev pub total : List Value → ℤ
total [] = pos 0
total (v ∷ vs) = number_of v +ℤ total vs

-- the sum of no value is NULL; one that doesn't fit 64 bits is a fault
abbrev pub sum_of : List Value → Outcome Value
sum_of [] = Good Null
sum_of (v ∷ vs) = cond (fits_64 (total (v ∷ vs))) (Good (Integer (total (v ∷ vs)))) (Bad (only OutOfRange))

abbrev pub first_or_null : List Value → Value
first_or_null [] = Null
first_or_null (v ∷ vs) = v

-- the aggregate of the argument's values, one for each row of a class
abbrev pub aggregated : AggFn → List Value → Outcome Value
aggregated CountRows vs = Good (Integer (pos (length vs)))
aggregated Count vs = Good (Integer (pos (length (present vs))))
aggregated CountDistinct vs = Good (Integer (pos (length (once_each (present vs)))))
aggregated Sum vs = sum_of (present vs)
aggregated Min vs = Good (first_or_null (sorted value_cmp (present vs)))
aggregated Max vs = Good (first_or_null (sorted (λ a b. ordering_reverse (value_cmp a b)) (present vs)))

-- the group values of the classes, in the order of their first rows; without groups there is one class, also of no row
abbrev pub class_keys : List ℕ → Bag → Bag
class_keys [] us = [] ∷ []
class_keys (group ∷ groups) us = once (map (picked (group ∷ groups)) us)

-- the rows with these group values
abbrev pub class_of : List ℕ → Row → Bag → Bag
class_of groups key us = filter (λ u. same_row (picked groups u) key) us

-- the arguments' values on a row on which they are good
abbrev pub good_row : Outcome Row → Row
good_row (Good row) = row
good_row (Bad faults) = []

-- the aggregates of a class, one after another: the nth is over the nth argument
abbrev pub aggregates_of : List AggFn → ℕ → List Row → Outcome Row
aggregates_of [] place arguments = Good []
aggregates_of (function ∷ functions) place arguments =
    both (λ v vs. v ∷ vs) (aggregated function (map (λ a. value_at a place) arguments)) (aggregates_of functions (suc place) arguments)

-- the row of a class: group values, then aggregates
abbrev pub class_row : List ℕ → List AggFn → (Row → Outcome Row) → Bag → Row → Outcome Row
class_row groups functions arguments us key =
    mapped (λ vs. key ++ vs) (aggregates_of functions 0 (map (λ u. good_row (arguments u)) (class_of groups key us)))

-- all arguments are looked at on all rows before any sum
abbrev pub grouped : List ℕ → List AggFn → (Row → Outcome Row) → Bag → Outcome Bag
grouped groups functions arguments us =
    and_then (each arguments us) (λ _. each (class_row groups functions arguments us) (class_keys groups us))

-- all lists of all rows of the class, whatever the functions; the all-empty list where the input has no row
abbrev pub class_lists : List ℕ → Witness → Means → Bag → Row → List Witness
class_lists groups blank m [] t = blank ∷ []
class_lists groups blank m (u ∷ us) t = flat_map m.lists (class_of groups (take (length groups) t) (u ∷ us))

abbrev pub aggregate_means : List ℕ → List AggFn → (Row → Outcome Row) → Witness → Means → Means
aggregate_means groups functions arguments blank m =
    with_lists (and_then m.rows (grouped groups functions arguments)) (class_lists groups blank m (good_rows m.rows))

-- ---- PROVENANCE: each row beside each of its flattened lists, once

abbrev pub with_witnesses : (Row → List Witness) → Row → Bag
with_witnesses lists t = map (λ w. t ++ flat w) (lists t)

abbrev pub provenance_means : Means → Means
provenance_means m = unlisted_means (mapped (λ bag. once (flat_map (with_witnesses m.lists) bag)) m.rows)

-- ---- sublinks

-- what a node's sublinks are on a row: their values, and the contributions of each; and all places empty
pub record SubMeans : Type 0 where
  pub answers : Row → Outcome (List Value)
  pub contributions : Row → List (List Witness)
  pub blank : Witness

-- how a list of comparisons compares: true where some is, else unknown where some is, else false
abbrev pub some_of : List Truth → Truth
some_of truths = cond (list_any is_true truths) True (cond (list_any (λ t. is_null (value_of t)) truths) Unknown False)

-- false where some is, else unknown where some is, else true
abbrev pub all_of : List Truth → Truth
all_of truths = cond (list_any (λ t. is_true (truth_not t)) truths) False (cond (list_any (λ t. is_null (value_of t)) truths) Unknown True)

-- a row's first column
abbrev pub cell : Row → Value
cell row = value_at row 0

abbrev pub comparisons : Compare → Value → Bag → List Truth
comparisons c x bag = map (λ row. compare_values c x (cell row)) bag

abbrev pub is_some_row : Bag → Bool
is_some_row [] = false
is_some_row (row ∷ rows) = true

-- the one row's column, NULL where there is no row; equal rows are several too
abbrev pub scalar : Bag → Outcome Value
scalar [] = Good Null
scalar (row ∷ []) = Good (cell row)
scalar (row ∷ other ∷ rows) = Bad (only SeveralRows)

-- the value of a sublink over the rows of its query
abbrev pub sub_value : SubKind → Value → Bag → Outcome Value
sub_value Exists x bag = Good (Boolean (is_some_row bag))
sub_value (Any c) x bag = Good (value_of (some_of (comparisons c x bag)))
sub_value (All c) x bag = Good (value_of (all_of (comparisons c x bag)))
sub_value Scalar x bag = scalar bag

-- the rows that contribute: those that compare true for ANY that is true, those that compare false for ALL that is
-- false, and otherwise all
abbrev pub chosen : SubKind → Value → Bag → Bag
chosen Exists x bag = bag
chosen (Any c) x bag =
    cond (is_true (some_of (comparisons c x bag))) (filter (λ row. is_true (compare_values c x (cell row))) bag) bag
chosen (All c) x bag =
    cond (is_true (truth_not (all_of (comparisons c x bag)))) (filter (λ row. is_true (truth_not (compare_values c x (cell row)))) bag) bag
chosen Scalar x bag = bag

-- the lists of the chosen rows; the all-empty list where the query has no row
abbrev pub contribution_of : Witness → SubKind → Value → Means → List Witness
contribution_of blank kind x m =
    cond (is_some_row (good_rows m.rows)) (flat_map m.lists (chosen kind x (good_rows m.rows))) (blank ∷ [])

abbrev pub good_value : Outcome Value → Value
good_value (Good v) = v
good_value (Bad faults) = Null

abbrev pub no_subs : SubMeans
no_subs = record { answers = λ u. Good []; contributions = λ u. []; blank = [] }

-- one sublink before others: tested is its left operand, m its query under the row
abbrev pub with_sub : SubKind → (Row → Outcome Value) → (Row → Means) → Witness → SubMeans → SubMeans
with_sub kind tested m blank subs = record {
  answers = λ u. both (λ v vs. v ∷ vs) (both_then (tested u) (m u).rows (sub_value kind)) (subs.answers u);
  contributions = λ u. contribution_of blank kind (good_value (tested u)) (m u) ∷ subs.contributions u;
  blank = blank ++ subs.blank;
}
