-- What the rows of each node are, by the counts of its inputs' rows, and which faults it meets (ISO/IEC 9075-2, 'query
-- expression': where clause, select list, joined table, set operations, group by clause, fetch first clause; that
-- evaluation is strict and faults are sets is this project's own).
use Rattle.std.specs.Prelude.{◌≡◌, ◌≢◌, ◌↔◌, ◌⊎◌, ℕ, ◌+◌, ◌*◌, ◌<◌, Bool, true, false, cond, not, ◌&&◌, List, [], ◌++◌, map, filter, take, length, sum_by, Some, Contains, IsSorted}
use Rattle.std.specs.List.{list_any, slice_get}
use Rattle.null_logic.specs.Arithmetic.{fits_64}
use Rattle.null_logic.specs.declared.run_fault.RunFault.{RunFault}
use Rattle.null_logic.specs.declared.run_fault.RunFault.TheVariants.{OutOfRange}
use Rattle.perm_values.specs.Rows.{same_row, value_at, picked, printed_cmp}
use Rattle.perm_values.specs.declared.key.Key.{Key}
use Rattle.perm_values.specs.declared.value.Value.{Value}
use Rattle.bag_algebra.specs.Bags.{Row, Bag, count, SameBag, nulls}
use Rattle.bag_algebra.specs.Means.{Witness, flat, is_met, gives, keeps_left, keeps_right, is_some_row, good_rows, present, total, aggregated, good_row, class_of}
use Rattle.bag_algebra.specs.Outcome.{Outcome, Good}
use Rattle.bag_algebra.specs.declared.query.AggFn.{AggFn}
use Rattle.bag_algebra.specs.declared.query.AggFn.TheVariants.{Sum}
use Rattle.bag_algebra.specs.declared.query.JoinKind.{JoinKind}
use Rattle.query_laws.specs.Faults.{IsGood, Meets, PassesFaults, UnitesFaults, OverRows, OverPairs}
use Rattle.query_laws.specs.Holding.{InBag, HoldsOnce, Lists, HasWidth, counted_where}

-- ---- Filter: a row has its count in the input where its condition is true, and otherwise none

pub record IsFiltered (condition : Row → Outcome Value) (input answer : Outcome Bag) : Type 0 where
  pub bad : PassesFaults input answer
  pub evaluated : (us : Bag) → input ≡ Good us → OverRows condition us answer
  pub counts : (us ts : Bag) → input ≡ Good us → answer ≡ Good ts → (t : Row) → count t ts ≡ cond (is_met (condition t)) (count t us) 0

-- ---- Project: a row has the sum of the counts of those input rows whose items give it

pub record IsProjected (items : Row → Outcome Row) (input answer : Outcome Bag) : Type 0 where
  pub bad : PassesFaults input answer
  pub evaluated : (us : Bag) → input ≡ Good us → OverRows items us answer
  pub counts : (us ts : Bag) → input ≡ Good us → answer ≡ Good ts → (rows : List Row) → Lists rows us →
      (t : Row) → count t ts ≡ counted_where (λ u. gives t (items u)) us rows

-- ---- Join

-- whether the pair makes the row and its condition is true
abbrev pub makes : (Row → Outcome Value) → Row → Row → Row → Bool
makes condition t u v = same_row (u ++ v) t && is_met (condition (u ++ v))

-- the sum, over the listed pairs that make the row, of the products of their counts
abbrev pub pairs_count : (Row → Outcome Value) → Row → Bag → Bag → List Row → List Row → ℕ
pairs_count condition t us vs lefts rights =
    sum_by (λ u. sum_by (λ v. count u us * count v vs) (filter (makes condition t u) rights)) lefts

-- whether no row of the other side makes the condition true
abbrev pub is_unmatched_left : (Row → Outcome Value) → Bag → Row → Bool
is_unmatched_left condition vs u = not (list_any (λ v. is_met (condition (u ++ v))) vs)

abbrev pub is_unmatched_right : (Row → Outcome Value) → Bag → Row → Bool
is_unmatched_right condition us v = not (list_any (λ u. is_met (condition (u ++ v))) us)

-- the counts of the unmatched rows that make the row beside NULLs, where their side is kept
abbrev pub left_count : JoinKind → (Row → Outcome Value) → ℕ → Row → Bag → Bag → List Row → ℕ
left_count kind condition right_width t us vs lefts =
    cond (keeps_left kind) (counted_where (λ u. same_row (u ++ nulls right_width) t && is_unmatched_left condition vs u) us lefts) 0

abbrev pub right_count : JoinKind → (Row → Outcome Value) → ℕ → Row → Bag → Bag → List Row → ℕ
right_count kind condition left_width t us vs rights =
    cond (keeps_right kind) (counted_where (λ v. same_row (nulls left_width ++ v) t && is_unmatched_right condition us v) vs rights) 0

pub record IsJoinOf (kind : JoinKind) (condition : Row → Outcome Value) (left_width right_width : ℕ) (left right answer : Outcome Bag) : Type 0 where
  pub bad : UnitesFaults left right answer
  pub evaluated : (us vs : Bag) → left ≡ Good us → right ≡ Good vs → OverPairs condition us vs answer
  pub counts : (us vs ts : Bag) → left ≡ Good us → right ≡ Good vs → answer ≡ Good ts →
      (lefts rights : List Row) → Lists lefts us → Lists rights vs →
      (t : Row) → count t ts ≡ pairs_count condition t us vs lefts rights
      + left_count kind condition right_width t us vs lefts + right_count kind condition left_width t us vs rights
  -- where all left rows have the left width, a row falls into its two parts in one way
  pub product : (us vs ts : Bag) → left ≡ Good us → right ≡ Good vs → answer ≡ Good ts → HasWidth left_width us →
      (u v : Row) → length u ≡ left_width → count (u ++ v) ts ≡ cond (is_met (condition (u ++ v))) (count u us * count v vs) 0
      + cond (keeps_left kind && same_row (nulls right_width) v && is_unmatched_left condition vs u) (count u us) 0
      + cond (keeps_right kind && same_row (nulls left_width) u && is_unmatched_right condition us v) (count v vs) 0

-- ---- Apply: each left row beside each right row under it, and beside NULLs where there is none and the kind keeps left rows

-- whether a left row over these right rows stands beside NULLs
abbrev pub is_alone : JoinKind → Bag → Bool
is_alone kind vs = keeps_left kind && not (is_some_row vs)

-- how often the row stands there for one such left row
abbrev pub beside_count : JoinKind → ℕ → Row → Row → Bag → ℕ
beside_count kind right_width t u vs =
    count t (map (λ v. u ++ v) vs) + cond (is_alone kind vs && same_row (u ++ nulls right_width) t) 1 0

pub record IsApplied (kind : JoinKind) (left_width right_width : ℕ) (left : Outcome Bag) (right : Row → Outcome Bag) (answer : Outcome Bag) : Type 0 where
  pub bad : PassesFaults left answer
  pub evaluated : (us : Bag) → left ≡ Good us → OverRows right us answer
  pub counts : (us ts : Bag) → left ≡ Good us → answer ≡ Good ts → (lefts : List Row) → Lists lefts us →
      (t : Row) → count t ts ≡ sum_by (λ u. count u us * beside_count kind right_width t u (good_rows (right u))) lefts
  -- where all left rows have the left width, a row falls into its two parts in one way
  pub product : (us ts : Bag) → left ≡ Good us → answer ≡ Good ts → HasWidth left_width us →
      (u v : Row) → length u ≡ left_width → count (u ++ v) ts ≡ count u us
      * (count v (good_rows (right u)) + cond (is_alone kind (good_rows (right u)) && same_row (nulls right_width) v) 1 0)

-- ---- Union, Intersect, Except: with ALL a row has the count that `many` makes of its counts on both sides; without ALL
-- the answer holds once each row whose counts are as `some` says

pub record IsCombined (many : ℕ → ℕ → ℕ) (some : ℕ → ℕ → Type 0) (all : Bool) (left right answer : Outcome Bag) : Type 0 where
  pub bad : UnitesFaults left right answer
  pub good : (us vs : Bag) → left ≡ Good us → right ≡ Good vs → IsGood answer
  pub with_all : (us vs ts : Bag) → left ≡ Good us → right ≡ Good vs → answer ≡ Good ts → all ≡ true →
      (t : Row) → count t ts ≡ many (count t us) (count t vs)
  pub without_all : (us vs ts : Bag) → left ≡ Good us → right ≡ Good vs → answer ≡ Good ts → all ≡ false →
      HoldsOnce (λ t. some (count t us) (count t vs)) ts

abbrev pub in_either : ℕ → ℕ → Type 0
in_either m n = 0 < m + n

abbrev pub in_both : ℕ → ℕ → Type 0
in_both m n = (0 < m) × (0 < n)

abbrev pub in_left_alone : ℕ → ℕ → Type 0
in_left_alone m n = (0 < m) × (n ≡ 0)

-- ---- Distinct: each row of the input once

pub record IsDistinct (input answer : Outcome Bag) : Type 0 where
  pub bad : PassesFaults input answer
  pub good : (us : Bag) → input ≡ Good us → IsGood answer
  pub rows : (us ts : Bag) → input ≡ Good us → answer ≡ Good ts → HoldsOnce (λ t. InBag t us) ts

-- ---- Aggregate: a row for each class of rows whose group values are the same

-- the group values of a class: those of some row of the input; without groups all rows are one class, also where
-- there is no row
abbrev pub IsKey : List ℕ → Bag → Row → Type 0
IsKey groups us key = ((groups ≡ []) × (key ≡ [])) ⊎ ((groups ≢ []) × ((u : Row) × InBag u us × (picked groups u ≡ key)))

-- the values of an argument on the rows of a class
abbrev pub class_values : List ℕ → (Row → Outcome Row) → Bag → Row → ℕ → List Value
class_values groups arguments us key place = map (λ u. value_at (good_row (arguments u)) place) (class_of groups key us)

-- the row of a class: the group values, then each aggregate of its argument's values on the rows of the class
pub record IsClassRow (groups : List ℕ) (functions : List AggFn) (arguments : Row → Outcome Row) (us : Bag) (key t : Row) : Type 0 where
  pub values : Row
  pub is : t ≡ key ++ values
  pub long : length values ≡ length functions
  pub each : (place : ℕ) (function : AggFn) → slice_get functions place ≡ Some function →
      aggregated function (class_values groups arguments us key place) ≡ Good (value_at values place)

-- the exact sum at a place doesn't fit 64 bits over the class
abbrev pub SumOverflows : List ℕ → List AggFn → (Row → Outcome Row) → Bag → Row → ℕ → Type 0
SumOverflows groups functions arguments us key place =
    (slice_get functions place ≡ Some Sum) × (fits_64 (total (present (class_values groups arguments us key place))) ≡ false)

pub record IsGrouped (groups : List ℕ) (functions : List AggFn) (arguments : Row → Outcome Row) (input answer : Outcome Bag) : Type 0 where
  pub bad : PassesFaults input answer
  -- an argument is bad on some row: no sum is looked at
  pub bad_argument : (us : Bag) (u : Row) → input ≡ Good us → InBag u us → ¬ (IsGood (arguments u)) → OverRows arguments us answer
  -- all arguments are good on all rows: good exactly where no sum is out of range, which is the only fault then
  pub good : (us : Bag) → input ≡ Good us → ((u : Row) → InBag u us → IsGood (arguments u)) →
      IsGood answer ↔ ((key : Row) (place : ℕ) → IsKey groups us key → ¬ (SumOverflows groups functions arguments us key place))
  pub out_of_range : (us : Bag) (fault : RunFault) → input ≡ Good us → ((u : Row) → InBag u us → IsGood (arguments u)) →
      Meets answer fault ↔ ((fault ≡ OutOfRange) × ((key : Row) × (place : ℕ) × IsKey groups us key × SumOverflows groups functions arguments us key place))
  pub rows : (us ts : Bag) → input ≡ Good us → answer ≡ Good ts →
      HoldsOnce (λ t. (key : Row) × IsKey groups us key × IsClassRow groups functions arguments us key t) ts
  pub one_row : (us ts : Bag) → input ≡ Good us → answer ≡ Good ts → groups ≡ [] → length ts ≡ 1

-- ---- Limit: the first rows of the input's, put in the printed order

pub record IsLimited (keys : List Key) (most : ℕ) (input answer : Outcome Bag) : Type 0 where
  pub bad : PassesFaults input answer
  pub first : (us : Bag) → input ≡ Good us →
      (ordered : Bag) × SameBag us ordered × IsSorted (printed_cmp keys) ordered × (answer ≡ Good (take most ordered))

-- ---- Prov: each row of the input beside each of its witness lists, once

pub record IsProvenance (lists : Row → List Witness) (input answer : Outcome Bag) : Type 0 where
  pub bad : PassesFaults input answer
  pub good : (us : Bag) → input ≡ Good us → IsGood answer
  pub rows : (us ts : Bag) → input ≡ Good us → answer ≡ Good ts →
      HoldsOnce (λ x. (t : Row) × (w : Witness) × InBag t us × Contains (lists t) w × (t ++ flat w ≡ x)) ts
