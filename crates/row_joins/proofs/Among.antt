-- `=` with any of the first columns of rows, by a table of them.
use Rattle.std.proofs.Common.{◌≡◌, Bool, true, false, cond, not, ◌&&◌, ◌||◌, [], ◌∷◌, refl, sym, ap, ◌∙◌}
use Rattle.std.proofs.Math.Bool.{or_comm}
use Rattle.std.specs.List.{list_any}
use Rattle.null_logic.specs.Comparison.{compare_values, holds}
use Rattle.null_logic.specs.Logic.{is_true, truth_not, value_of, known}
use Rattle.null_logic.specs.declared.compare.Compare.TheVariants.{Equal, NotEqual}
use Rattle.null_logic.specs.declared.truth.Truth.{Truth}
use Rattle.null_logic.specs.declared.truth.Truth.TheVariants.{True, False, Unknown}
use Rattle.std.specs.declared.cmp.Ordering.{Ordering}
use Rattle.std.specs.declared.cmp.Ordering.TheVariants as order
use Rattle.perm_values.specs.Values.{value_cmp, is_null}
use Rattle.perm_values.specs.declared.value.Value.{Value}
use Rattle.bag_algebra.specs.Bags.{Bag}
use Rattle.bag_algebra.specs.Means.{some_of, all_of, cell, comparisons, is_some_row}
use Rattle.bag_algebra.proofs.Truths.{and_true}
use Rattle.row_joins.specs.Agreeing.{agree}
use Rattle.row_joins.specs.Cells.{first_pair, truth_from}
use Rattle.row_joins.specs.Places.{places_of}
use Rattle.row_joins.proofs.Hashing.{some_place}
use Rattle.row_joins.specs.Hashed.{is_some_place}

equal_cells : (x : Value) (vs : Bag) → list_any is_true (comparisons Equal x vs) ≡ list_any (agree (first_pair ∷ []) (x ∷ [])) vs
equal_cells x [] = refl
equal_cells x (v ∷ vs) = λ i. sym (and_true (is_true (compare_values Equal x (cell v)))) i || equal_cells x vs i

null_of : (m n h : Bool) → is_null (value_of (cond (m || n) Unknown (known h))) ≡ (m || n)
null_of true n h = refl
null_of false true h = refl
null_of false false true = refl
null_of false false false = refl

one_more_null : (a b s r : Bool) → ((a || b) || ((s && a) || r)) ≡ (a || (b || r))
one_more_null true b s r = refl
one_more_null false true s r = refl
one_more_null false false true r = refl
one_more_null false false false r = refl

unknown_cells : (x : Value) (vs : Bag) → list_any (λ t. is_null (value_of t)) (comparisons Equal x vs) ≡ ((is_some_row vs && is_null x) || list_any (λ v. is_null (cell v)) vs)
unknown_cells x [] = refl
unknown_cells x (v ∷ vs) =
    (λ i. null_of (is_null x) (is_null (cell v)) (holds Equal (value_cmp x (cell v))) i || unknown_cells x vs i)
    ∙ one_more_null (is_null x) (is_null (cell v)) (is_some_row vs) (list_any (λ u. is_null (cell u)) vs)

-- what the table finds is the truth of `=` with any
pub among : (x : Value) (vs : Bag) (found some_null some_row unknown : Bool) → found ≡ is_some_place (places_of (agree (first_pair ∷ []) (x ∷ [])) vs) →
    some_null ≡ list_any (λ v. is_null (cell v)) vs → some_row ≡ is_some_row vs → unknown ≡ (some_null || (some_row && is_null x)) →
    truth_from found unknown ≡ some_of (comparisons Equal x vs)
among x vs found some_null some_row unknown e f g h =
    let known_found : found ≡ list_any is_true (comparisons Equal x vs) = e ∙ some_place (agree (first_pair ∷ []) (x ∷ [])) vs ∙ sym (equal_cells x vs) in
    let known_null : unknown ≡ list_any (λ t. is_null (value_of t)) (comparisons Equal x vs) =
    h ∙ (λ i. f i || (g i && is_null x)) ∙ or_comm (list_any (λ v. is_null (cell v)) vs) (is_some_row vs && is_null x) ∙ sym (unknown_cells x vs) in
    λ i. truth_from (known_found i) (known_null i)

-- ---- `<>` with all

differs : (o : Ordering) → holds NotEqual o ≡ not (holds Equal o)
differs order.Less = refl
differs order.Equal = refl
differs order.Greater = refl

turned_known : (m h g : Bool) → g ≡ not h → cond m Unknown (known g) ≡ truth_not (cond m Unknown (known h))
turned_known true h g e = refl
turned_known false true g e = ap known e
turned_known false false g e = ap known e

not_equal : (x y : Value) → compare_values NotEqual x y ≡ truth_not (compare_values Equal x y)
not_equal x y = turned_known (is_null x || is_null y) (holds Equal (value_cmp x y)) (holds NotEqual (value_cmp x y)) (differs (value_cmp x y))

turned_back : (t : Truth) → is_true (truth_not (truth_not t)) ≡ is_true t
turned_back True = refl
turned_back False = refl
turned_back Unknown = refl

null_turned : (t : Truth) → is_null (value_of (truth_not t)) ≡ is_null (value_of t)
null_turned True = refl
null_turned False = refl
null_turned Unknown = refl

false_ones : (x : Value) (vs : Bag) → list_any (λ t. is_true (truth_not t)) (comparisons NotEqual x vs) ≡ list_any is_true (comparisons Equal x vs)
false_ones x [] = refl
false_ones x (v ∷ vs) =
    λ i. ((ap (λ t. is_true (truth_not t)) (not_equal x (cell v)) ∙ turned_back (compare_values Equal x (cell v))) i) || false_ones x vs i

unknown_ones : (x : Value) (vs : Bag) → list_any (λ t. is_null (value_of t)) (comparisons NotEqual x vs) ≡ list_any (λ t. is_null (value_of t)) (comparisons Equal x vs)
unknown_ones x [] = refl
unknown_ones x (v ∷ vs) =
    λ i. ((ap (λ t. is_null (value_of t)) (not_equal x (cell v)) ∙ null_turned (compare_values Equal x (cell v))) i) || unknown_ones x vs i

not_some : (a b : Bool) → cond a False (cond b Unknown True) ≡ truth_not (cond a True (cond b Unknown False))
not_some true b = refl
not_some false true = refl
not_some false false = refl

-- differing from all is not equalling any
pub differs_from_all : (x : Value) (vs : Bag) → all_of (comparisons NotEqual x vs) ≡ truth_not (some_of (comparisons Equal x vs))
differs_from_all x vs = (λ i. cond (false_ones x vs i) False (cond (unknown_ones x vs i) Unknown True)) ∙ not_some _ _
